-- The NaN test, the sign that rounding gives, and what `le` says of two positive fractions. By cases on the float.
use Rattle.std.proofs.Common.{◌≡◌, ℕ, zero, suc, ◌+◌, ◌*◌, ◌^◌, ◌<◌, ◌≤◌, Bool, true, false, cond, not, ◌&&◌, ◌||◌, T, eqb, ltb, pos, sym, refl, subst, le_of_eq, le_of_lt, eqb→eq, ltb→lt}
use mathlib.Core.Bool.{false≢true}
use lib.Ieee.{Float, nan, inf, fin, Format, prec, emax, low, units, odd, round, is_nan}
use lib.Ieee.Fits.{round_is}
use lib.Ieee.Order.{kept, drop}

pub is_nan_nan : (x : Float) → is_nan x ≡ true → x ≡ nan
unfolding is_nan
is_nan_nan nan h = refl
is_nan_nan (inf s) h = absurd (false≢true h)
is_nan_nan (fin s m e) h = absurd (false≢true h)

-- ---- rounding gives a number or an infinity with the sign asked for

abbrev pub Signed : Bool → Float → Type 0
Signed s nan = ⊥
Signed s (inf t) = t ≡ s
Signed s (fin t m e) = t ≡ s

units_signed : (f : Format) (s : Bool) (q k : ℕ) → Signed s (units f s q k)
unfolding units odd
units_signed f s zero k = go (ltb (0 * 2 ^ k) (2 ^ (low f + suc (emax f))))
  where
    go : (b : Bool) → Signed s (cond b (fin s 0 (pos 0)) (inf s))
    go true = refl
    go false = refl
units_signed f s (suc q) k = go (ltb (suc q * 2 ^ k) (2 ^ (low f + suc (emax f))))
  where
    go : (b : Bool) → Signed s (cond b (odd (suc (prec f)) s (suc q) k (low f)) (inf s))
    go true = refl
    go false = refl

pub round_signed : (f : Format) (s : Bool) (a c : ℕ) → Signed s (round f s a c)
round_signed f s a c = subst (λ (x : Float). Signed s x) (sym (round_is f s a c)) (units_signed f s (kept (prec f) (a * 2 ^ low f) c) (drop (prec f) (a * 2 ^ low f) c))

pub signed_not_nan : (s : Bool) (x : Float) → Signed s x → T (not (is_nan x))
unfolding is_nan
signed_not_nan s nan h = absurd h
signed_not_nan s (inf t) h = tt
signed_not_nan s (fin t m e) h = tt

-- ---- what `le` says of two positive fractions
pub le_says : (a b : ℕ) → T (ltb a b || (eqb a b && true)) → a ≤ b
le_says a b h = go (ltb a b) (eqb a b) (ltb→lt a b) (eqb→eq a b) h
  where
    go : (x y : Bool) → (T x → a < b) → (T y → a ≡ b) → T (x || (y && true)) → a ≤ b
    go true y p q h = le_of_lt (p tt)
    go false true p q h = le_of_eq (q tt)
    go false false p q h = absurd h
