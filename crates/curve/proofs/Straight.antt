-- |x| by the library is the definition's (`abs_is`); and |x| against a positive bound is a test by the sign of x (`abs_negative`, `abs-other`). By
-- cases on x.
use mathlib.Core.Path.{◌≡◌, refl}
use mathlib.Core.Bool.{true, false, true≢false, false≢true}
use Prim.Native.Nat.{ℕ, ◌+◌, ◌*◌, ◌≤◌, ◌<◌}
use native.Mathlib.Nat.{zero-mul, zero-add}
use native.Mathlib.Omega.{arith}
use borrow.Author.Tests.{ltb-true, ltb-false}
use lib.IntN.{ℤ}
use lib.Ieee.{Float, nan, inf, fin, up, down, neg, lt}
use Rattle.std.specs.Float.{float_with_sign}
use Rattle.numbers.specs.Constants.{zero}
use Rattle.curve.specs.Curves.{abs}

pub abs_is : (x : Float) → float_with_sign false x ≡ abs x
unfolding float_with_sign
abs_is nan = refl
abs_is (inf s) = refl
abs_is (fin s m e) = refl

pub abs_negative : (x : Float) → lt x zero ≡ true → abs x ≡ neg x
unfolding lt neg
abs_negative nan h = refl
abs_negative (inf true) h = refl
abs_negative (inf false) h = absurd (false≢true h)
abs_negative (fin true m e) h = refl
abs_negative (fin false m e) h = absurd (none (m * up e) (down e) (ltb-true (m * up e * 1) (0 * down e) h))
  where
    none : (a b : ℕ) → a * 1 < 0 * b → ⊥
    none a b h = omega arith

-- -0 is as little below the bound as +0.
pub abs-other : (x : Float) (n : ℕ) (d : ℤ) → lt x zero ≡ false → lt (abs x) (fin false n d) ≡ lt x (fin false n d)
unfolding lt
abs-other nan n d h = refl
abs-other (inf true) n d h = absurd (true≢false h)
abs-other (inf false) n d h = refl
abs-other (fin true m e) n d h = rw (none (m * up e) (down e) (ltb-false 0 (m * up e * 1 + 0 * down e) h), zero-mul (down d), zero-add (n * up d * down e))
  where
    none : (a b : ℕ) → a * 1 + 0 * b ≤ 0 → a ≡ 0
    none a b h = omega arith
abs-other (fin false m e) n d h = refl
