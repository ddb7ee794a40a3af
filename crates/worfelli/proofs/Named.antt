-- A code that names something is one that the test of codes takes, and names what the settings have of it; by the code's cases.
use mathlib.Core.Path.{◌≡◌, refl}
use mathlib.Core.Bool.{Bool, true, false}
use Prim.Native.Nat.{ℕ, zero, suc}
use native.Mathlib.Omega.{arith}
use borrow.Author.Tests.{le-ltb}
use lib.Dec.{ltb}
use Rattle.std.specs.Prelude.{Result, Ok, Err, MatchResult}
use Rattle.std.specs.Result.{IsErrAnd}
use Rattle.timing.specs.declared.UnnamedCode.{UnnamedCode}
use Rattle.timing.specs.Codes.{unit}
use Rattle.settings.specs.declared.refusals.Refusal.{Refusal}
use Rattle.settings.specs.declared.refusals.Refusal.TheVariants as Refusals
use Rattle.settings.specs.Codes.{restart, flag}
use Rattle.memory.specs.Memory.{unit_of, flag_of, restart_of}

-- A code's meaning r is x if t says that it is named.
abbrev pub Means : {T : Type 0} → Bool → T → Result T UnnamedCode → Type 0
Means t x r = MatchResult r (λ y. (t ≡ true) × (y ≡ x)) (λ e. t ≡ false)

pub unit-means : (n : ℕ) → Means (ltb n 2) (unit_of n) (unit n)
unit-means zero = (refl, refl)
unit-means (suc zero) = (refl, refl)
unit-means (suc (suc n)) = le-ltb (suc (suc n)) 2 (omega arith)

pub flag-means : (n : ℕ) → Means (ltb n 2) (flag_of n) (flag n)
flag-means zero = (refl, refl)
flag-means (suc zero) = (refl, refl)
flag-means (suc (suc n)) = le-ltb (suc (suc n)) 2 (omega arith)

pub restart-means : (n : ℕ) → Means (ltb n 2) (restart_of n) (restart n)
restart-means zero = (refl, refl)
restart-means (suc zero) = (refl, refl)
restart-means (suc (suc n)) = le-ltb (suc (suc n)) 2 (omega arith)

-- What a `?` hands on of a code that names nothing.
pub propagated : {T : Type 0} (P : T → Type 0) (t : Bool) (r : Result T Refusal) → IsErrAnd r (λ x. x ≡ Refusals.UnnamedCode) → t ≡ false
    → MatchResult r P (λ x. (t ≡ false) × (x ≡ Refusals.UnnamedCode))
propagated P t (Ok x) h e = absurd h
propagated P t (Err x) h e = (e, h)
