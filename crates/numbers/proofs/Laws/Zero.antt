-- Zeros: rounding keeps one with its sign, adding +0 keeps a positive number and turns a zero of either sign into +0, and what gives or keeps a zero.
-- By cases on the operands.
use Rattle.std.proofs.Common.{◌≡◌, ℕ, zero, suc, ◌+◌, ◌-◌, ◌*◌, ◌<◌, Bool, true, false, not, T, ℤ, pos, sym, refl, ap, ◌∙◌, subst, true≢false, le_refl, lt_irrefl, zero-lt-suc, mul-pos, zero-mul, mul-one, arith, le-ltb}
use native.Mathlib.Nat.{sub_self}
use lib.Dec.{eqb-suc-zero}
use lib.Ieee.{Float, nan, inf, fin, Format, up, down, round, neg, add, sub, mul, div, sum, lt, eq, level, fits, unlike}
use lib.Ieee.Fits.{up_pos, down_pos}
use lib.Ieee.Scale.{round_same, finite}
use Rattle.numbers.specs.Constants as Constants
use Rattle.numbers.specs.Constants.{one}
use Rattle.numbers.specs.Limits.{clamp}
use Rattle.numbers.proofs.Laws.Patterns.{round_own}

one_down : (e : ℤ) → 0 < down e * 1
one_down e = mul-pos (down_pos e) (zero-lt-suc 0)

pub round_zero : (f : Format) (s : Bool) (c : ℕ) → 0 < c → round f s 0 c ≡ fin s 0 (pos 0)
round_zero f s c C = round_same f s 0 c 0 1 C (zero-lt-suc 0) (sym (zero-mul c)) ∙ round_own f s 0 (pos 0) zero-fits
  where
    zero-fits : T (fits f (fin s 0 (pos 0)))
    zero-fits = unfold fits in tt

pub add_zero_positive : (f : Format) (m : ℕ) (e : ℤ) → T (fits f (fin false m e)) → add f (fin false m e) Constants.zero ≡ fin false m e
unfolding add sum
add_zero_positive f m e F =
    round_same f false (m * up e * 1 + 0 * down e) (down e * 1) (m * up e) (down e) (one_down e) (down_pos e) (tidy (m * up e) (down e))
    ∙ round_own f false m e F
  where
    plain : (a z : ℕ) → z ≡ 0 → a * 1 + z ≡ a
    plain a z h = omega arith

    tidy : (a c : ℕ) → (a * 1 + 0 * c) * c ≡ a * (c * 1)
    tidy a c = ap (λ (x : ℕ). x * c) (plain a (0 * c) (zero-mul c)) ∙ ap (λ (x : ℕ). a * x) (sym (mul-one c))

pub add-zero-zero : (f : Format) (s : Bool) (m : ℕ) (e : ℤ) → m * up e ≡ 0 → add f (fin s m e) Constants.zero ≡ Constants.zero
unfolding add sum
add-zero-zero f true m e h = rw (h, zero-mul (down e)) (round_zero f false (down e * 1) (one_down e))
add-zero-zero f false m e h = rw (h, zero-mul (down e)) (round_zero f false (down e * 1) (one_down e))

-- ---- zeros of either sign

abbrev pub Zero : Float → Type 0
Zero x = (s : Bool) × (x ≡ fin s 0 (pos 0))

-- What a zero may be divided by: neither a NaN nor a zero.
abbrev pub Divisor : Float → Type 0
Divisor nan = ⊥
Divisor (inf s) = Unit
Divisor (fin s m e) = 0 < m

pub divisor_of_test : (x : Float) → T (finite x) → eq x Constants.zero ≡ false → Divisor x
unfolding eq
divisor_of_test nan h n = h
divisor_of_test (inf s) h n = tt
divisor_of_test (fin s zero e) h n =
    absurd (true≢false (sym (same s (0 * up e * 1) (0 * down e) (ap (λ (x : ℕ). x * 1) (zero-mul (up e))) (zero-mul (down e))) ∙ n))
  where
    same : (s : Bool) (a b : ℕ) → a ≡ 0 → b ≡ 0 → level s a false b ≡ true
    same true a b h k = rw (h, k) refl
    same false a b h k = rw (h, k) refl
divisor_of_test (fin s (suc m) e) h n = zero-lt-suc m

rounds_to_zero : (f : Format) (s : Bool) (a c : ℕ) → a ≡ 0 → 0 < c → Zero (round f s a c)
rounds_to_zero f s a c h C = (s, ap (λ (x : ℕ). round f s x c) h ∙ round_zero f s c C)

pub neg_zero : (x : Float) → Zero x → Zero (neg x)
unfolding neg
neg_zero x z = (not z.0, ap neg z.1)

-- A number less itself.
pub sub_itself : (f : Format) (x : Float) → T (finite x) → Zero (sub f x x)
unfolding sub add neg sum
sub_itself f nan h = absurd h
sub_itself f (inf s) h = absurd h
sub_itself f (fin true m e) h =
    let a = m * up e * down e in
    rw (le-ltb a a (le_refl a)) (rounds_to_zero f false (a - a) (down e * down e) (sub_self a) (mul-pos (down_pos e) (down_pos e)))
sub_itself f (fin false m e) h =
    let a = m * up e * down e in
    rw (le-ltb a a (le_refl a)) (rounds_to_zero f false (a - a) (down e * down e) (sub_self a) (mul-pos (down_pos e) (down_pos e)))

times : (f : Format) (s : Bool) (y : Float) → T (finite y) → Zero (mul f (fin s 0 (pos 0)) y)
unfolding mul
times f s nan h = absurd h
times f s (inf t) h = absurd h
times f s (fin t n d) h = rounds_to_zero f (unlike s t) (0 * (n * up d)) (1 * down d) (zero-mul (n * up d)) (mul-pos (zero-lt-suc 0) (down_pos d))

pub zero-times : (f : Format) (x y : Float) → Zero x → T (finite y) → Zero (mul f x y)
zero-times f x y z h = subst (λ (w : Float). Zero (mul f w y)) (sym z.1) (times f z.0 y h)

over : (f : Format) (s : Bool) (y : Float) → Divisor y → Zero (div f (fin s 0 (pos 0)) y)
unfolding div
over f s nan h = absurd h
over f s (inf t) h = (unlike s t, refl)
over f s (fin t zero d) h = absurd (lt_irrefl 0 h)
over f s (fin t (suc n) d) h =
    rw (eqb-suc-zero n)
    (rounds_to_zero f (unlike s t) (0 * down d) (suc n * up d * 1) (zero-mul (down d)) (mul-pos (mul-pos h (up_pos d)) (zero-lt-suc 0)))

pub zero-over : (f : Format) (x y : Float) → Zero x → Divisor y → Zero (div f x y)
zero-over f x y z h = subst (λ (w : Float). Zero (div f w y)) (sym z.1) (over f z.0 y h)

pub clamp-zero : (x : Float) → Zero x → Zero (clamp x Constants.zero one)
clamp-zero x z = (z.0, ap (λ (w : Float). clamp w Constants.zero one) z.1 ∙ go z.0)
  where
    go : (s : Bool) → clamp (fin s 0 (pos 0)) Constants.zero one ≡ fin s 0 (pos 0)
    go true = unfold clamp lt in refl
    go false = unfold clamp lt in refl
