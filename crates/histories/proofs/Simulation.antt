-- `Simulates b r`, the simulation relation between a bank b and what was read of its calls, r: the same is known of both, and each voice of b, with the
-- bank's timing, is the envelope of its history in r. It holds of a fresh bank (`fresh-simulates`), and a call keeps it (`call-simulates`, the step lemma:
-- an accepted call by `kept`, and a refused one changes neither side). So it holds after every list of calls (`simulates`), by induction.
use mathlib.Core.Path.{◌≡◌, refl, sym, ap, ◌∙◌, subst}
use mathlib.Core.List.{List, [], ◌∷◌}
use Prim.Native.Nat.{ℕ, zero, suc, ◌<◌}
use native.Mathlib.Omega.{arith}
use lib.ListN.{replicate, length-replicate, get_or-replicate}
use Rattle.settings.specs.Settings.{amp}
use Rattle.lane.specs.Planning as Planning
use Rattle.envelope.specs.declared.envelopes.Envelope.{Envelope}
use Rattle.envelope.specs.Envelopes as Envelopes
use Rattle.bank.specs.declared.known.Known.{Known}
use Rattle.bank.specs.Calls.{Opening, Call, learned, if_accepted, opened, refusal}
use Rattle.bank.specs.Banks.{Bank, size, known, envelope, frames, new, after_accepted, answer}
use Rattle.histories.specs.Demand.{Entry, run, frames_more, step, envelope_of, Effect, enter, copy, effect, after_effect}
use Rattle.histories.specs.Demand.{Histories, history, extended, after_call, fresh_histories, histories_of, bank_after, voices_of}
use Rattle.histories.proofs.Lists.{run-append}
use Rattle.histories.proofs.Kept.{Live, acted, Kept, as_many, alone, kept, kept-frames}

-- The simulation relation: b knows what r does, and each voice of b, with its timing, is the envelope of its history in r.
pub record Simulates (b : Bank) (r : Histories) : Type 0 where
  pub knows : known b ≡ r.known
  pub at : (v : ℕ) → v < size b → envelope b v ≡ envelope_of (history r v)

pub fresh-simulates : (o : Opening) → Simulates (new o).bank (fresh_histories o)
unfolding new fresh_histories envelope_of
fresh-simulates o =
    let p = opened o in
    let c = Planning.new p.params in
    let n : size (new o).bank ≡ p.voices = length-replicate p.voices c in
    record {
      knows = as_many n;
      at = λ v h. ap (alone p.timing) (get_or-replicate p.voices v c (Planning.new amp) (omega arith));
    }

-- An effect does to the voice w what it does to its history.
acted-after_effect : (b : Bank) (r : Histories) → Simulates b r → (w : ℕ) → w < size b → (x : Effect) → Live (size b) x
    → acted (envelope b) w x ≡ envelope_of (record { fresh = r.fresh; entries = after_effect r.entries w x })
unfolding envelope_of
acted-after_effect b r s w h (enter es) l =
    ap (λ (e : Envelope). run step e es) (s.at w h)
    ∙ sym (run-append step (Envelopes.idle r.fresh.params r.fresh.timing) (r.entries w) es)
acted-after_effect b r s w h (copy u) l = s.at u l

kept-simulates : (b b' : Bank) (r : Histories) (x : ℕ → Effect) (k : Known) → Simulates b r → Kept b x k b'
    → Simulates b' (record { known = k; fresh = r.fresh; entries = λ w. after_effect r.entries w (x w) })
kept-simulates b b' r x k s q =
    record {
      knows = q.knows;
      at = λ w h. let i : w < size b = omega (arith, q.voices) in q.at w i ∙ acted-after_effect b r s w i (x w) (q.live w);
    }

-- The step lemma: after a call, accepted or refused, the bank simulates the histories after it.
pub call-simulates : (b : Bank) (r : Histories) → Simulates b r → (c : Call) → Simulates (answer b c).bank (after_call r c)
unfolding answer after_call
call-simulates b r s c = go (refusal (known b) c) refl
  where
    go : (x : ℕ) → refusal (known b) c ≡ x → Simulates (answer b c).bank (after_call r c)
    go zero e =
        let f : refusal r.known c ≡ 0 = ap (λ (k : Known). refusal k c) (sym s.knows) ∙ e in
        rw (e, f)
        (subst
        (λ (k : Known). Simulates (after_accepted b c) (record { known = learned k c; fresh = r.fresh; entries = λ w. after_effect r.entries w (effect k c w) }))
        s.knows
        (kept-simulates b (after_accepted b c) r (effect (known b) c) (learned (known b) c) s (kept b c e)))
    go (suc x) e = let f : refusal r.known c ≡ suc x = ap (λ (k : Known). refusal k c) (sym s.knows) ∙ e in rw (e, f) s

run-simulates : (b : Bank) (r : Histories) → Simulates b r → (cs : List Call) → Simulates (run (λ b c. (answer b c).bank) b cs) (run after_call r cs)
run-simulates b r s [] = s
run-simulates b r s (c ∷ cs) = run-simulates (answer b c).bank (after_call r c) (call-simulates b r s c) cs

-- After any list of calls.
pub simulates : (o : Opening) (cs : List Call) → Simulates (bank_after o cs) (histories_of o cs)
unfolding bank_after histories_of
simulates o cs = run-simulates _ _ (fresh-simulates o) cs

-- n frames later.
pub later : (n : ℕ) (b : Bank) (r : Histories) → Simulates b r
    → Simulates (frames n b) (record { known = r.known; fresh = r.fresh; entries = λ w. (frames_more n (history r w)).entries })
later n b r s =
    subst (λ (k : Known). Simulates (frames n b) (record { known = k; fresh = r.fresh; entries = λ w. (frames_more n (history r w)).entries })) s.knows
    (kept-simulates b (frames n b) r (λ w. enter (replicate n Entry.frame)) (known b) s (kept-frames n b))

-- The voice count stays the opening's.
after_call-voices : (r : Histories) (cs : List Call) → (run after_call r cs).known.voices ≡ r.known.voices
unfolding after_call
after_call-voices r [] = refl
after_call-voices r (c ∷ cs) = after_call-voices (after_call r c) cs ∙ go (refusal r.known c)
  where
    go : (x : ℕ) → (if_accepted x (extended r c) r).known.voices ≡ r.known.voices
    go zero = refl
    go (suc x) = refl

pub histories_of-voices : (o : Opening) (cs : List Call) → (histories_of o cs).known.voices ≡ voices_of o
unfolding histories_of fresh_histories
histories_of-voices o cs = after_call-voices (fresh_histories o) cs

pub bank-voices : (o : Opening) (cs : List Call) → size (bank_after o cs) ≡ voices_of o
bank-voices o cs = ap (λ (k : Known). k.voices) (simulates o cs).knows ∙ histories_of-voices o cs
