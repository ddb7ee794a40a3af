-- `unit` by cases: inside 0..1 the number itself, above it 1, below it and at NaN +0. So its range is 0 to 1, without a sign (`unit_range`); and
-- below 1 the distance to 1 does not round to zero, since it is a smallest value at least (`distance-to-one`).
use Rattle.std.proofs.Common.{◌≡◌, ℕ, zero, suc, ◌+◌, ◌-◌, ◌*◌, ◌^◌, ◌<◌, ◌≤◌, Bool, true, false, cond, not, ◌&&◌, ◌||◌, T, eqb, ltb, ℤ, pos, sym, refl, ap, ◌∙◌, subst, inl, inr, true≢false, zero-le, le_trans, le_of_eq, le_of_lt, mul-le-mul_right, zero-lt-suc, eq-or-lt_of_le, mul-pos, one-mul, zero-mul, arith, lit≤, eqb→eq, ltb→lt, nltb→le, pow_pos, ltb-false, ltb-true, le-ltb}
use mathlib.Core.Bool.{false≢true}
use lib.Pow.{pow-lt}
use borrow.Author.Tests.{eqb-false}
use lib.Ieee.{Float, nan, inf, fin, Format, binary32, prec, emax, low, up, down, round, neg, sum, add, sub, lt, le, eq, is_nan, fits}
use lib.Ieee.Fits.{up_pos, down_pos, cond-fits, add-fits, two, two-le_pos}
use lib.Ieee.Back.{whole_unique}
use lib.Ieee.Exact.{round_exact}
use lib.Ieee.Order.{round_mono}
use lib.Ieee.Positive.{above, above_of_le, positive_of_value}
use Rattle.numbers.specs.Constants as Constants
use Rattle.numbers.specs.Constants.{one}
use Rattle.numbers.specs.Limits.{unit, clamp}
use Rattle.numbers.proofs.Laws.Floats.{Signed, round_signed}
use Rattle.numbers.proofs.Laws.Patterns.{fits-parts}
use Rattle.numbers.proofs.Laws.Zero.{add_zero_positive, add-zero-zero, Divisor}
use Rattle.numbers.proofs.Laws.Sizes.{Within, round_within}

one-fits : T (fits binary32 one)
unfolding fits
one-fits = tt

one_kept : add binary32 one Constants.zero ≡ one
one_kept = add_zero_positive binary32 1 (pos 0) one-fits

-- Of a number without a sign only the upper end is left to test.
unit_unsigned : (m : ℕ) (e : ℤ) → unit (fin false m e) ≡ add binary32 (cond (ltb (1 * down e) (m * up e * 1)) one (fin false m e)) Constants.zero
unfolding unit clamp is_nan lt
unit_unsigned m e = rw (le-ltb (m * up e * 1) (0 * down e) (le_trans (le_of_eq (zero-mul (down e))) zero-le)) refl

pub unit-inside : (x : Float) → T (fits binary32 x) → lt Constants.zero x ≡ true → lt x one ≡ true → unit x ≡ x
unfolding unit clamp is_nan lt
unit-inside nan F h k = absurd (false≢true h)
unit-inside (inf true) F h k = absurd (false≢true h)
unit-inside (inf false) F h k = absurd (false≢true k)
unit-inside (fin true m e) F h k = absurd (false≢true h)
unit-inside (fin false m e) F h k =
    let l = ltb-true (m * up e * 1) (1 * down e) k in
    unit_unsigned m e
    ∙ ap (λ (b : Bool). add binary32 (cond b one (fin false m e)) Constants.zero) (le-ltb (1 * down e) (m * up e * 1) (le_of_lt l))
    ∙ add_zero_positive binary32 m e F

pub unit-above : (x : Float) → T (fits binary32 x) → lt Constants.zero x ≡ true → lt x one ≡ false → unit x ≡ one
unfolding unit clamp is_nan lt
unit-above nan F h k = absurd (false≢true h)
unit-above (inf true) F h k = absurd (false≢true h)
unit-above (inf false) F h k = one_kept
unit-above (fin true m e) F h k = absurd (false≢true h)
unit-above (fin false m e) F h k =
    unit_unsigned m e
    ∙ go (ltb (1 * down e) (m * up e * 1)) (nltb→le (1 * down e) (m * up e * 1)) (ltb-false (m * up e * 1) (1 * down e) k)
  where
    both : (a b : ℕ) → a ≤ b → b ≤ a → a ≡ b
    both a b p q = omega arith

    go : (t : Bool) → (T (not t) → m * up e * 1 ≤ 1 * down e) → 1 * down e ≤ m * up e * 1 → add binary32 (cond t one (fin false m e)) Constants.zero ≡ one
    go true p q = one_kept
    go false p q =
        ap (λ (x : Float). add binary32 x Constants.zero)
        (whole_unique binary32 (fin false m e) one false 1 F one-fits (refl, both (m * up e * 1) (1 * down e) (p tt) q) (refl, refl))
        ∙ one_kept

pub unit-below : (x : Float) → lt Constants.zero x ≡ false → unit x ≡ Constants.zero
unfolding unit clamp is_nan lt
unit-below nan h = refl
unit-below (inf true) h = add-zero-zero binary32 false 0 (pos 0) refl
unit-below (inf false) h = absurd (true≢false h)
unit-below (fin true m e) h = go (ltb 0 (m * up e * 1 + 0 * down e)) (nltb→le 0 (m * up e * 1 + 0 * down e))
  where
    flat : (a b : ℕ) → a * 1 + b ≤ 0 → a ≡ 0
    flat a b h = omega arith

    go : (t : Bool) → (T (not t) → m * up e * 1 + 0 * down e ≤ 0) → add binary32 (cond t Constants.zero (fin true m e)) Constants.zero ≡ Constants.zero
    go true p = add-zero-zero binary32 false 0 (pos 0) refl
    go false p = add-zero-zero binary32 true m e (flat (m * up e) (0 * down e) (p tt))
unit-below (fin false m e) h =
    let z : m * up e ≡ 0 = flat (m * up e) (0 * down e) (zero-mul (down e)) (ltb-false (0 * down e) (m * up e * 1) h) in
    unit_unsigned m e
    ∙ ap (λ (b : Bool). add binary32 (cond b one (fin false m e)) Constants.zero) (le-ltb (1 * down e) (m * up e * 1) (small (m * up e) (down e) z))
    ∙ add-zero-zero binary32 false m e z
  where
    flat : (a b : ℕ) → b ≡ 0 → a * 1 ≤ b → a ≡ 0
    flat a b z h = omega arith

    small : (a d : ℕ) → a ≡ 0 → a * 1 ≤ 1 * d
    small a d z = omega arith

-- ---- the range

pub unit-fits : (x : Float) → T (fits binary32 (unit x))
unfolding unit fits
unit-fits x =
    let y = clamp x Constants.zero one in
    cond-fits binary32 (is_nan x) Constants.zero (add binary32 y Constants.zero) tt (add-fits binary32 y Constants.zero)

-- A number from 0 to 1 without a sign.
abbrev pub InUnit : Float → Type 0
InUnit x = Signed false x × Within 0 x

pub unit_range : (x : Float) → InUnit (unit x)
unit_range x = go (lt Constants.zero x) refl
  where
    of_one : InUnit (add binary32 one Constants.zero)
    of_one = subst InUnit (sym one_kept) (refl, lit≤ tt)

    inside : (m : ℕ) (e : ℤ) → m * up e * 1 ≤ 1 * down e → InUnit (add binary32 (fin false m e) Constants.zero)
    inside m e h = unfold add sum in (
      round_signed binary32 false (m * up e * 1 + 0 * down e) (down e * 1),
      round_within binary32 false (m * up e * 1 + 0 * down e) (down e * 1) 0 (mul-pos (down_pos e) (zero-lt-suc 0)) zero-le
          (tidy (m * up e) (down e) h),
    )
      where
        tidy : (a c : ℕ) → a * 1 ≤ 1 * c → a * 1 + 0 * c ≤ 1 * (c * 1)
        tidy a c h = omega arith

    above_zero : (x : Float) → lt Constants.zero x ≡ true → InUnit (unit x)
    above_zero nan h = unfold lt in absurd (false≢true h)
    above_zero (inf true) h = unfold lt in absurd (false≢true h)
    above_zero (inf false) h = unfold unit clamp is_nan lt in of_one
    above_zero (fin true m e) h = unfold lt in absurd (false≢true h)
    above_zero (fin false m e) h =
        subst InUnit (sym (unit_unsigned m e)) (pick (ltb (1 * down e) (m * up e * 1)) (nltb→le (1 * down e) (m * up e * 1)))
      where
        pick : (t : Bool) → (T (not t) → m * up e * 1 ≤ 1 * down e) → InUnit (add binary32 (cond t one (fin false m e)) Constants.zero)
        pick true p = of_one
        pick false p = inside m e (p tt)

    go : (t : Bool) → lt Constants.zero x ≡ t → InUnit (unit x)
    go true h = above_zero x h
    go false h = subst InUnit (sym (unit-below x h)) (refl, zero-le)

-- ---- below 1 the distance to 1 is not lost

-- Every value is a whole number of smallest ones.
down_le : (f : Format) (m : ℕ) (e : ℤ) → T (fits f (fin false m e)) → down e ≤ 2 ^ low f
unfolding fits
down_le f zero e F =
    le_trans (le_trans (le_of_eq (sym (one-mul (down e)))) (mul-le-mul_right (down e) (up_pos e)))
    (le_trans (le_of_eq (eqb→eq (up e * down e) 1 F)) (pow_pos (low f)))
down_le f (suc m) e F = (fits-parts f false m e F).2

-- What is not below the smallest value does not round to zero.
smallest : (f : Format) (a c : ℕ) → 0 < a → 0 < c → c ≤ 2 ^ low f → T (above (round f false a c))
smallest f a c A C h =
    above_of_le (round f false 1 (2 ^ low f)) (round f false a c)
    (positive_of_value (round f false 1 (2 ^ low f)) 1 (2 ^ low f)
    (round_exact f false 1 (2 ^ low f) 1 0 (pow_pos (low f)) (pow-lt (two-le_pos (prec f) (two f))) (pow-lt (some (low f) (emax f))) refl)
    (zero-lt-suc 0))
    (round_mono f 1 (2 ^ low f) a c (pow_pos (low f)) C
    (le_trans (le_of_eq (one-mul c)) (le_trans h (le_trans (le_of_eq (sym (one-mul (2 ^ low f)))) (mul-le-mul_right (2 ^ low f) A)))))
  where
    some : (l e : ℕ) → 0 < l + suc e
    some l e = omega arith

divisor_of_above : (x : Float) → T (above x) → Divisor x
divisor_of_above nan h = h
divisor_of_above (inf s) h = tt
divisor_of_above (fin true m e) h = absurd h
divisor_of_above (fin false m e) h = ltb→lt 0 m h

pub distance-to-one : (x : Float) → T (fits binary32 x) → InUnit x → le one x ≡ false → Divisor (sub binary32 one x)
unfolding sub add neg sum le lt eq
distance-to-one nan F i h = absurd i.0
distance-to-one (inf s) F i h = absurd i.1
distance-to-one (fin true m e) F i h = absurd (true≢false i.0)
distance-to-one (fin false m e) F i h =
    let l : m * up e * 1 < 1 * down e =
    below (m * up e * 1) (1 * down e) (tidy (m * up e) (down e) i.1)
    (differ (ltb (1 * down e) (m * up e * 1)) (eqb (1 * down e) (m * up e * 1)) h) in
    rw (le-ltb (1 * down e) (m * up e * 1) (le_of_lt l))
    (divisor_of_above (round binary32 false (1 * down e - m * up e * 1) (1 * down e))
    (smallest binary32 (1 * down e - m * up e * 1) (1 * down e) (rest (m * up e * 1) (1 * down e) l) (mul-pos (zero-lt-suc 0) (down_pos e))
    (le_trans (le_of_eq (one-mul (down e))) (down_le binary32 m e F))))
  where
    differ : (u v : Bool) → u || (v && true) ≡ false → v ≡ false
    differ true v h = absurd (true≢false h)
    differ false true h = h
    differ false false h = h

    tidy : (a c : ℕ) → a ≤ 1 * c → a * 1 ≤ 1 * c
    tidy a c h = omega arith

    below : (a c : ℕ) → a ≤ c → eqb c a ≡ false → a < c
    below a c p q = elim (eq-or-lt_of_le p) [
      | inl e ↦ absurd (eqb-false c a q (sym e))
      | inr l ↦ l
    ]

    rest : (a c : ℕ) → a < c → 0 < c - a
    rest a c h = omega arith
