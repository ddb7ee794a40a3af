-- A call's whole statement (`Answered`: its number, the bank after it, what it keeps of the arrays) from what its parts ensure. One law for a refused
-- call, one for an accepted one, and one for a call that changes a single voice (`of_one`); and the same of a fresh bank (`Opened`). By cases on
-- whether the number is 0.
use mathlib.Core.Path.{◌≡◌, refl, sym, ap, ◌∙◌}
use mathlib.Core.Bool.{Bool, true, false, cond}
use mathlib.Core.Logic.{◌≢◌}
use Prim.Native.Nat.{ℕ, zero, suc, ◌≤◌}
use native.Mathlib.Omega.{arith}
use borrow.Author.Tests.{le-ltb}
use lib.Dec.{ltb}
use Rattle.std.specs.Prelude.{Result, Ok, Err}
use Rattle.std.specs.Result.{IsErrAnd}
use Rattle.settings.specs.declared.refusals.Refusal.{Refusal}
use Rattle.settings.specs.declared.refusals.Refusal.TheVariants.{NoSuchVoice}
use Rattle.settings.specs.Refusals.{number, number_of}
use Rattle.settings.proofs.Propagated.{number-some}
use Rattle.numbers.specs.Constants as Constants
use Rattle.timing.specs.Clock as Clock
use Rattle.settings.specs.Settings.{amp}
use Rattle.lane.specs.declared.lanes.Voice.{Voice}
use Rattle.memory.specs.declared.arrays.Arrays.{Arrays}
use Rattle.memory.specs.Memory.{count_of}
use Rattle.memory.proofs.Storing.{same_self}
use Rattle.bank.specs.declared.known.Known.{Known}
use Rattle.bank.specs.Calls.{Opening, opening_refusal, opened, Call, refusal, if_accepted, voice_refusal}
use Rattle.bank.specs.Banks.{Bank, bank_of, size, known, voice, put, idle, new, after_accepted, answer}
use Rattle.bank.specs.Lent.{Kept, KeptFrom}
use Rattle.bank.specs.Parts.{One}
use Rattle.bank.proofs.Accepted.{if_refused}
use Rattle.bank.proofs.Representation.{size_of}

-- What each call's statement says.
abbrev pub Answered : Call → ℕ → Arrays → Arrays → Type 0
Answered call r m m' = (r ≡ (answer (bank_of m) call).refusal) × ((bank_of m' ≡ (answer (bank_of m) call).bank) × Kept r m m')

module _ (call : Call) (m : Arrays) where
  -- Refused, by the number r.
  pub refused : (r : ℕ) → r ≢ 0 → r ≡ refusal (known (bank_of m)) call → Answered call r m m
  unfolding answer
  refused r d e = (e, (sym (if_refused (refusal (known (bank_of m)) call) (after_accepted (bank_of m) call) (bank_of m) (λ z. d (e ∙ z))), record { refused = λ d. refl; beside = λ w i j. same_self w m }))

  -- By a refusal that a `?` hands on.
  pub propagated : {A : Type 0} (r : Result A Refusal) (e : Refusal) → IsErrAnd r (λ x. x ≡ e) → number e ≡ refusal (known (bank_of m)) call → Answered call (number_of r) m m
  propagated (Ok x) e i h = absurd i
  propagated (Err x) e i h = refused (number x) (number-some x) (ap number i ∙ h)

  -- By the test for a voice.
  pub missing : (v later : ℕ) → refusal (known (bank_of m)) call ≡ voice_refusal (known (bank_of m)) v later → {A : Type 0} (r : Result A Refusal) (e : Refusal) → IsErrAnd r (λ x. x ≡ e)
      → (e ≡ NoSuchVoice) × (count_of m.codes ≤ v) → Answered call (number_of r) m m
  missing v later w r e i h = propagated r e i (ap number h.0 ∙ sym (w ∙ rw (le-ltb v (size (bank_of m)) (omega (arith, h.1, size_of m)))))

  -- Accepted.
  pub accepted : (m' : Arrays) → refusal (known (bank_of m)) call ≡ 0 → bank_of m' ≡ after_accepted (bank_of m) call → KeptFrom (count_of m.codes) m m' → Answered call 0 m m'
  unfolding answer
  accepted m' e w k = (sym e, (rw e w, record { refused = λ d. absurd (d refl); beside = k }))

  -- On the voice v alone.
  pub of_one : (v : ℕ) (g : Voice → Voice) → refusal (known (bank_of m)) call ≡ voice_refusal (known (bank_of m)) v 0
      → after_accepted (bank_of m) call ≡ put v (g (voice (bank_of m) v)) (bank_of m) → (r : ℕ) (m' : Arrays) → One v g r m m' → Answered call r m m'
  unfolding answer
  of_one v g e w r m' O =
      let q : r ≡ refusal (known (bank_of m)) call = O.refusal ∙ sym e in (
        q,
        (
          O.bank ∙ ap (λ (b : Bank). if_accepted r b (bank_of m)) (sym w) ∙ ap (λ (n : ℕ). if_accepted n (after_accepted (bank_of m) call) (bank_of m)) q,
          O.kept,
        ),
      )

-- Both tests for a voice answer by the same number.
pub both : (k : Known) (v w : ℕ) → voice_refusal k w 0 ≡ 2 → voice_refusal k v (voice_refusal k w 0) ≡ 2
both k v w e = go (ltb v k.voices)
  where
    go : (x : Bool) → cond x (voice_refusal k w 0) 2 ≡ 2
    go true = e
    go false = refl

-- A fresh bank, refused or accepted.
abbrev pub Opened : Opening → ℕ → Arrays → Arrays → Type 0
Opened o r m m' = (r ≡ (new o).refusal) × ((bank_of m' ≡ (new o).bank) × KeptFrom (opened o).voices m m')

module _ (o : Opening) (m m' : Arrays) where
  pub opening-refused : (r : ℕ) → r ≢ 0 → r ≡ opening_refusal o → (bank_of m' ≡ idle 0 amp (Clock.new Constants.zero)) × KeptFrom 0 m m' → Opened o r m m'
  unfolding new opened
  opening-refused zero d e w = absurd (d refl)
  opening-refused (suc r) d e w = (e, (rw (← e) w.0, rw (← e) w.1))

  pub opening-accepted : opening_refusal o ≡ 0 → (bank_of m' ≡ idle o.voices o.params o.timing) × KeptFrom o.voices m m' → Opened o 0 m m'
  unfolding new opened
  opening-accepted e w = (sym e, (rw e w.0, rw e w.1))
