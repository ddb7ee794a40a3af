-- What follows from the number that refuses a call, 0 if it is accepted: which of two values `if_accepted` gives; that a voice that an accepted call
-- names is one of the bank's (`voice_there`); that an output of whole frames is accepted, and passes them (`whole`, `block-frames`); and that an accepted
-- fresh bank has at most 64 voices. By cases on the tests of the definitions.
use mathlib.Core.Path.{◌≡◌, refl, subst}
use mathlib.Core.Bool.{Bool, true, false, cond}
use mathlib.Core.Logic.{◌≢◌}
use Prim.Native.Nat.{ℕ, zero, suc, ◌*◌, ◌/◌, ◌≤◌, ◌<◌}
use native.Mathlib.Omega.{arith}
use native.Mathlib.Nat.{mul-mod_left, mul-div_cancel}
use borrow.Author.Tests.{ltb-true, ltb-false}
use lib.Dec.{ltb}
use Rattle.settings.specs.Refusals as Refusals
use Rattle.rows.specs.Strides.{stride_of}
use Rattle.bank.specs.declared.known.Known.{Known}
use Rattle.bank.specs.Calls as Calls
use Rattle.bank.specs.Calls.{Opening, opening_refusal, Call, if_accepted, refusal}
use Rattle.bank.specs.Banks.{Bank, size, known, frames, after_accepted, answer}
use Rattle.bank.proofs.Frames.{stride_holds}

-- What comes of a number that refuses, and of 0.
pub if_refused : {A : Type 0} (n : ℕ) (a r : A) → n ≢ 0 → if_accepted n a r ≡ r
if_refused zero a r d = absurd (d refl)
if_refused (suc n) a r d = refl

pub if_accepted_lem : {A : Type 0} (n : ℕ) (a r : A) → n ≡ 0 → if_accepted n a r ≡ a
if_accepted_lem zero a r e = refl
if_accepted_lem (suc n) a r e = absurd (omega arith)

-- The test for a voice was passed, and so were the later tests.
pub voice_there : (k : Known) (v later : ℕ) → Calls.voice_refusal k v later ≡ 0 → (v < k.voices) × (later ≡ 0)
voice_there k v later e = go (ltb v k.voices) refl e
  where
    go : (t : Bool) → ltb v k.voices ≡ t → cond t later 2 ≡ 0 → (v < k.voices) × (later ≡ 0)
    go true p q = (ltb-true v k.voices p, q)
    go false p q = absurd (omega arith)

-- Whole frames are accepted, and pass.
pub whole : (k : Known) (a : ℕ) → (refusal k (Call.process (a * stride_of k.voices)) ≡ 0) × (a * stride_of k.voices / stride_of k.voices ≡ a)
unfolding refusal
whole k a = (rw (mul-mod_left a (stride_of k.voices)), mul-div_cancel a (stride_holds k.voices).1)

pub block-frames : (b : Bank) (n a : ℕ) → size b ≡ n → (answer b (Call.process (a * stride_of n))).bank ≡ frames a b
unfolding answer after_accepted
block-frames b n a e =
    subst (λ (n : ℕ). (answer b (Call.process (a * stride_of n))).bank ≡ frames a b) e (rw ((whole (known b) a).0, (whole (known b) a).1))

-- An accepted fresh bank has no more voices than there is room for.
pub opened_few : (o : Opening) → opening_refusal o ≡ 0 → o.voices ≤ 64
unfolding opening_refusal
opened_few o e = go (ltb 64 o.voices) refl e
  where
    go : (t : Bool) → ltb 64 o.voices ≡ t → cond t 1 (Refusals.fresh o.params o.timing) ≡ 0 → o.voices ≤ 64
    go true p q = absurd (omega arith)
    go false p q = ltb-false 64 o.voices p
