-- An accepted chord anywhere in a list, and its single triggers in list order: the same bank, histories and later replies (`chord-triggers`). Its voices are
-- all there, so that each single trigger is accepted and does its part of the chord (`triggers-bank`, `triggers-histories`, by induction on the list), and
-- a list of calls is run part by part (`run-append`).
use mathlib.Core.Path.{◌≡◌, refl, sym, ap, ◌∙◌, fun_ext}
use mathlib.Core.Bool.{Bool, true, false, cond}
use mathlib.Core.List.{List, [], ◌∷◌, ◌++◌, append_assoc, append-nil}
use Prim.Native.Nat.{ℕ, ◌<◌}
use borrow.Author.Tests.{lt-ltb}
use lib.Dec.{eqb}
use Rattle.std.specs.List.{fold}
use Rattle.settings.specs.declared.settings.Trigger.{Trigger}
use Rattle.bank.specs.declared.known.Known.{Known}
use Rattle.bank.specs.Calls.{Opening, Call, voices_refusal, chord_refusal, refusal}
use Rattle.bank.specs.Banks.{Bank, known, triggered, after_accepted, answer, new}
use Rattle.bank.proofs.Frames.{size-put}
use Rattle.bank.proofs.Accepted.{voice_there}
use Rattle.bank.proofs.ChordVoices.{chord-there}
use Rattle.histories.specs.Demand.{Entry, run, enter, chord_entries, effect, after_effect, Histories, after_call, fresh_histories, histories_of}
use Rattle.histories.specs.Demand.{bank_after, replies_from, refusal_after, single_triggers, ChordIsTriggers}
use Rattle.histories.proofs.Lists.{run-append}
use Rattle.histories.proofs.Simulation.{simulates}

-- ---- the bank

call : Bank → Call → Bank
call b c = (answer b c).bank

triggers-bank : (x : Trigger) (vs : List ℕ) (b : Bank) → voices_refusal (known b) vs ≡ 0 → run call b (single_triggers vs x) ≡ fold (triggered x) b vs
unfolding call answer refusal after_accepted
triggers-bank x [] b a = refl
triggers-bank x (v ∷ vs) b a =
    let h = voice_there (known b) v (voices_refusal (known b) vs) a in
    let e : call b (Call.trigger v x) ≡ triggered x b v = rw (lt-ltb v (known b).voices h.0) refl in
    ap (λ (y : Bank). run call y (single_triggers vs x)) e ∙ triggers-bank x vs (triggered x b v) (rw (size-put b v _) h.1)

chord-bank : (x : Trigger) (vs : List ℕ) (b : Bank) → chord_refusal (known b) vs ≡ 0 → call b (Call.chord vs x) ≡ run call b (single_triggers vs x)
unfolding call answer refusal after_accepted
chord-bank x vs b a = rw a (sym (triggers-bank x vs b (chord-there (known b) vs a)))

-- ---- the histories

-- With entries more for each voice.
abbrev entered : Histories → (ℕ → List Entry) → Histories
entered r new = record { known = r.known; fresh = r.fresh; entries = λ w. r.entries w ++ new w }

entered-same : (r : Histories) (es fs : ℕ → List Entry) → ((w : ℕ) → es w ≡ fs w)
    → ◌≡◌ {A = Histories} (record { known = r.known; fresh = r.fresh; entries = es }) (record { known = r.known; fresh = r.fresh; entries = fs })
entered-same r es fs e = ap {B = Histories} (λ (xs : ℕ → List Entry). record { known = r.known; fresh = r.fresh; entries = xs }) (fun_ext e)

trigger-histories : (x : Trigger) (v : ℕ) (r : Histories) → v < r.known.voices
    → after_call r (Call.trigger v x) ≡ entered r (λ w. cond (eqb w v) (Entry.trigger x ∷ []) [])
unfolding after_call refusal effect
trigger-histories x v r h = rw (lt-ltb v r.known.voices h) (entered-same r _ _ (λ w. go w (eqb w v)))
  where
    go : (w : ℕ) (t : Bool) → after_effect r.entries w (cond t (enter (Entry.trigger x ∷ [])) (enter [])) ≡ r.entries w ++ cond t (Entry.trigger x ∷ []) []
    go w true = refl
    go w false = refl

triggers-histories : (x : Trigger) (vs : List ℕ) (r : Histories) → voices_refusal r.known vs ≡ 0
    → run after_call r (single_triggers vs x) ≡ entered r (λ w. chord_entries x vs w)
triggers-histories x [] r a = entered-same r _ _ (λ w. sym (append-nil (r.entries w)))
triggers-histories x (v ∷ vs) r a =
    let h = voice_there r.known v (voices_refusal r.known vs) a in
    ap (λ (y : Histories). run after_call y (single_triggers vs x)) (trigger-histories x v r h.0)
    ∙ triggers-histories x vs (entered r (λ w. cond (eqb w v) (Entry.trigger x ∷ []) [])) h.1
    ∙ entered-same r _ _ (λ w. append_assoc (r.entries w) (cond (eqb w v) (Entry.trigger x ∷ []) []) (chord_entries x vs w))

chord-histories : (x : Trigger) (vs : List ℕ) (r : Histories) → chord_refusal r.known vs ≡ 0
    → after_call r (Call.chord vs x) ≡ run after_call r (single_triggers vs x)
unfolding after_call refusal effect
chord-histories x vs r a = rw a (sym (triggers-histories x vs r (chord-there r.known vs a)))

-- ---- in a list

-- A call in a list, and others in its place, that have done the same there.
in_place : (A : Type 0) (f : A → Call → A) (a : A) (pre post : List Call) (c : Call) (cs : List Call)
    → f (run f a pre) c ≡ run f (run f a pre) cs → run f a (pre ++ c ∷ post) ≡ run f a (pre ++ cs ++ post)
in_place A f a pre post c cs e =
    run-append f a pre (c ∷ post) ∙ ap (λ (y : A). run f y post) (e ∙ sym (run-append f a pre cs)) ∙ sym (run-append f a (pre ++ cs) post)

pub chord-triggers : (o : Opening) (pre post : List Call) (vs : List ℕ) (x : Trigger) → refusal_after o pre (Call.chord vs x) ≡ 0
    → ChordIsTriggers o pre post vs x
unfolding refusal call bank_after histories_of
chord-triggers o pre post vs x a =
    record {
      bank = bank post;
      histories = in_place Histories after_call (fresh_histories o) pre post (Call.chord vs x) (single_triggers vs x) (chord-histories x vs (histories_of o pre) a);
      replies =
          ap (λ (b : Bank). replies_from b post)
          (bank [] ∙ ap (bank_after o) (append-nil (pre ++ single_triggers vs x)));
    }
  where
    bank : (post : List Call) → bank_after o (pre ++ Call.chord vs x ∷ post) ≡ bank_after o (pre ++ single_triggers vs x ++ post)
    bank post =
        in_place Bank call (new o).bank pre post (Call.chord vs x) (single_triggers vs x)
        (chord-bank x vs (bank_after o pre) (ap (λ (k : Known). chord_refusal k vs) (simulates o pre).knows ∙ a))
