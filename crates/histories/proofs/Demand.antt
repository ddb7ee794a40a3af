-- Demand 3, put together from the files before this one. One list: each voice is the envelope of its history (`simulates`), and stage, level and replies
-- follow. Two lists: voices of the same history are the same envelope. A note in a bank: its stage is that of the history, whose stages last as
-- `note-lengths` says.
use mathlib.Core.Path.{◌≡◌, refl, sym, ap, ◌∙◌}
use mathlib.Core.Bool.{false}
use mathlib.Core.Logic.{◌≢◌}
use mathlib.Core.List.{List, [], ◌∷◌, ◌++◌}
use Prim.Native.Nat.{ℕ, ◌<◌}
use native.Mathlib.Omega.{arith}
use borrow.Author.Tests.{lt-ltb, eq-eqb}
use Rattle.settings.specs.declared.settings.Trigger.{Trigger}
use Rattle.settings.specs.declared.settings.Trigger.TheVariants.{New}
use Rattle.lane.specs.Voices.{leaves_alone}
use Rattle.envelope.specs.Envelopes as Envelopes
use Rattle.bank.specs.declared.known.Known.{Known}
use Rattle.bank.specs.Calls.{Opening, Call, opening_refusal, refusal}
use Rattle.bank.specs.Banks.{Bank, known, after_accepted, answer, new}
use Rattle.bank.proofs.Accepted.{if_refused}
use Rattle.histories.specs.Demand.{Entry, History, more, frames_more, envelope_of, level_of, settings_of, timing_of}
use Rattle.histories.specs.Demand.{effect, Histories, history, extended, after_call, fresh_histories, histories_of, history_of}
use Rattle.histories.specs.Demand.{bank_after, envelope_at, stage_at, voices_of, block, stage_after, note_stage, OneList, TwoLists, NoteInBank, Demand3}
use Rattle.histories.proofs.Lists.{run-append}
use Rattle.histories.proofs.Simulation.{fresh-simulates, simulates, histories_of-voices, bank-voices}
use Rattle.histories.proofs.Answers.{replies-expected}
use Rattle.histories.proofs.Limits.{history_lead_exact}
use Rattle.histories.proofs.Levels.{drawn-levels}
use Rattle.histories.proofs.Blocks.{block_after_call, cut-block}
use Rattle.histories.proofs.Chords.{chord-triggers}
use Rattle.histories.proofs.Notes.{note-lengths}

-- ---- one list

refused-bank : (o : Opening) (pre : List Call) (c : Call) → refusal (histories_of o pre).known c ≢ 0 → bank_after o (pre ++ c ∷ []) ≡ bank_after o pre
unfolding bank_after answer
refused-bank o pre c d =
    let b = bank_after o pre in
    run-append (λ (b : Bank) (c : Call). (answer b c).bank) (new o).bank pre (c ∷ [])
    ∙ if_refused (refusal (known b) c) (after_accepted b c) b (λ e. d (ap (λ (k : Known). refusal k c) (sym (simulates o pre).knows) ∙ e))

refused-histories : (o : Opening) (pre : List Call) (c : Call) → refusal (histories_of o pre).known c ≢ 0 → histories_of o (pre ++ c ∷ []) ≡ histories_of o pre
unfolding histories_of after_call
refused-histories o pre c d =
    let r = histories_of o pre in
    run-append after_call (fresh_histories o) pre (c ∷ []) ∙ if_refused (refusal r.known c) (extended r c) r d

call-number : (o : Opening) (pre : List Call) (c : Call) → (answer (bank_after o pre) c).refusal ≡ refusal (histories_of o pre).known c
unfolding answer
call-number o pre c = ap (λ (k : Known). refusal k c) (simulates o pre).knows

fresh-number : (o : Opening) → (new o).refusal ≡ opening_refusal o
unfolding new
fresh-number o = refl

one_list : (o : Opening) (cs : List Call) → OneList o cs
one_list o cs =
    record {
      opening = fresh-number o;
      voices = bank-voices o cs;
      envelope = same;
      stage = λ v h. ap Envelopes.stage (same v h);
      level = λ v h. ap Envelopes.level (same v h);
      replies = replies-expected _ _ (fresh-simulates o) cs;
      lead = λ v h. history_lead_exact o cs v;
      number = λ pre post c e. call-number o pre c;
      refused = λ pre post c e d. (refused-bank o pre c d, refused-histories o pre c d);
      drawn = λ pre post out e. drawn-levels o pre out;
    }
  where
    same : (v : ℕ) → v < voices_of o → envelope_at o cs v ≡ envelope_of (history_of o cs v)
    same v h = (simulates o cs).at v (omega (arith, bank-voices o cs))

-- ---- two lists

two_lists : (o₁ o₂ : Opening) (cs₁ cs₂ : List Call) (v w : ℕ) → v < voices_of o₁ → w < voices_of o₂ → TwoLists o₁ o₂ cs₁ cs₂ v w
two_lists o₁ o₂ cs₁ cs₂ v w h k =
    record {
      envelope = same;
      stage = λ e. ap Envelopes.stage (same e);
      level = λ e. ap Envelopes.level (same e);
      levels = λ out₁ out₂ a₁ a₂ k₁ k₂ i j e.
          (drawn-levels o₁ cs₁ out₁).level a₁ k₁ v i h ∙ ap level_of e ∙ sym ((drawn-levels o₂ cs₂ out₂).level a₂ k₂ w j k);
    }
  where
    same : history_of o₁ cs₁ v ≡ history_of o₂ cs₂ w → envelope_at o₁ cs₁ v ≡ envelope_at o₂ cs₂ w
    same e = (one_list o₁ cs₁).envelope v h ∙ ap envelope_of e ∙ sym ((one_list o₂ cs₂).envelope w k)

-- ---- a note

trigger-after_call : (r : Histories) (v : ℕ) (x : Trigger) → v < r.known.voices
    → ((after_call r (Call.trigger v x)).known ≡ r.known) × (history (after_call r (Call.trigger v x)) v ≡ more (history r v) (Entry.trigger x ∷ []))
unfolding after_call refusal effect
trigger-after_call r v x h = (rw (lt-ltb v r.known.voices h), rw (lt-ltb v r.known.voices h, eq-eqb v v refl))

note-history : (o : Opening) (cs : List Call) (v k : ℕ) (x : Trigger) → v < voices_of o
    → history_of o (cs ++ Call.trigger v x ∷ block o k ∷ []) v ≡ frames_more k (more (history_of o cs v) (Entry.trigger x ∷ []))
unfolding histories_of
note-history o cs v k x h =
    let r = histories_of o cs in
    let r₁ = after_call r (Call.trigger v x) in
    let n : r.known.voices ≡ voices_of o = histories_of-voices o cs in
    let t = trigger-after_call r v x (omega (arith, n)) in
    ap (λ (r : Histories). history r v)
    (run-append after_call (fresh_histories o) cs (Call.trigger v x ∷ block o k ∷ [])
    ∙ block_after_call r₁ (voices_of o) k (ap (λ (k : Known). k.voices) t.0 ∙ n))
    ∙ ap (frames_more k) t.1

note_in_bank : (o : Opening) (cs : List Call) (v k : ℕ) → v < voices_of o → NoteInBank o cs v k
note_in_bank o cs v k h =
    record {
      note = λ x s. note_among x s (cs ++ Call.trigger v x ∷ block o k ∷ []) (note-history o cs v k x h);
      note_among = note_among;
      new_note = among (cs ++ Call.trigger v New ∷ block o k ∷ []) (note-history o cs v k New h);
      among = among;
    }
  where
    -- The bank's stage is that of the history, whose lengths are known.
    stage_of : (later : List Call) (g : History) → history_of o later v ≡ g → stage_at o later v ≡ Envelopes.stage (envelope_of g)
    stage_of later g e = (one_list o later).stage v h ∙ ap (λ (h : History). Envelopes.stage (envelope_of h)) e

    note_among : (x : Trigger) → leaves_alone x (envelope_of (history_of o cs v)).voice ≡ false
        → (later : List Call) → history_of o later v ≡ frames_more k (more (history_of o cs v) (Entry.trigger x ∷ []))
        → stage_at o later v ≡ note_stage (history_of o cs v) x k
    note_among x s later e = stage_of later _ e ∙ (note-lengths (history_of o cs v) k).stage x s

    among : (later : List Call) → history_of o later v ≡ frames_more k (more (history_of o cs v) (Entry.trigger New ∷ []))
        → stage_at o later v ≡ stage_after (settings_of (history_of o cs v)) (timing_of (history_of o cs v)) 0 k
    among later e = stage_of later _ e ∙ (note-lengths (history_of o cs v) k).new_note

pub demand3 : Demand3
demand3 = record { one = one_list; two = two_lists; cut = cut-block; chord = chord-triggers; notes = note-lengths; played = note_in_bank }
