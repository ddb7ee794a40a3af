-- The binary32 pattern that a rounded fraction has: q × 2^k smallest values are written k × 2^23 + q, where q has the leading digit or k is 0. By
-- cases: rounding may have carried into a 25th digit, which raises the exponent field by one; else q has 24 digits, or is subnormal.
use Rattle.std.proofs.Common.{◌≡◌, ℕ, ◌+◌, ◌-◌, ◌*◌, ◌/◌, ◌^◌, ◌<◌, ◌≤◌, Bool, true, false, cond, T, ltb, ◌⊎◌, sym, refl, ap, ◌∙◌, subst, inl, inr, le_trans, le_of_eq, lt_of_lt_of_le, lt_of_le_of_lt, add_assoc, mul-le-mul_right, eq-or-lt_of_le, mul-one, not-le_of_lt, div-one, mul-div_cancel, arith, ltb→lt, pow_pos, pow_mono, pow-add, shl_lt}
use Rattle.std.proofs.lemmas.Bool.{cases_lt}
use lib.Dec.{not_T}
use lib.Pow.{pow-lt}
use lib.Ieee.{Float, inf, binary32, size, odd, units, round, fits, of_bits}
use lib.Ieee.Digits.{size-le}
use lib.Ieee.Fits.{round_is, round-fits}
use lib.Ieee.Bits.{cond_no, of_bits-to_bits}
use lib.Ieee.Exact.{units_val}
use lib.Ieee.Nearest.{closest}
use Rattle.numbers.proofs.Laws.Digits.{two_pow, size_is}
use Rattle.numbers.proofs.Laws.Patterns.{to_bits_is}

-- The sign's place in a pattern, and the pattern of n smallest values without its sign.
abbrev pub sign : Bool → ℕ
sign s = cond s (2 ^ 31) 0

abbrev magnitude : ℕ → ℕ
magnitude n = (size n - 24) * 2 ^ 23 + n / 2 ^ (size n - 24)

-- q has its leading digit, the 24th, or nothing was dropped.
abbrev pub Lead : ℕ → ℕ → Type 0
Lead q k = (2 ^ 23 ≤ q) ⊎ (k ≡ 0)

-- ---- the magnitude's pattern

with_lead : (q k : ℕ) → 2 ^ 23 ≤ q → q < 2 ^ 24 → magnitude (q * 2 ^ k) ≡ k * 2 ^ 23 + q
with_lead q k lo hi =
    let z : size (q * 2 ^ k) ≡ 23 + k + 1 =
    size_is (q * 2 ^ k) (23 + k) (le_trans (le_of_eq (pow-add 2 23 k)) (mul-le-mul_right (2 ^ k) lo))
    (lt_of_lt_of_le (shl_lt 24 k hi) (pow_mono (up_one k))) in
    let y : size (q * 2 ^ k) - 24 ≡ k = ap (λ (x : ℕ). x - 24) z ∙ cut k in
    ap (λ (x : ℕ). x * 2 ^ 23 + q * 2 ^ k / 2 ^ x) y ∙ ap (λ (x : ℕ). k * 2 ^ 23 + x) (mul-div_cancel q (pow_pos k))
  where
    up_one : (k : ℕ) → 24 + k ≤ 23 + k + 1
    up_one k = omega arith

    cut : (k : ℕ) → 23 + k + 1 - 24 ≡ k
    cut k = omega arith

-- Where rounding carried into a 25th digit, the field goes up by one.
carried : (k : ℕ) → magnitude (2 ^ 24 * 2 ^ k) ≡ k * 2 ^ 23 + 2 ^ 24
carried k =
    let n = 2 ^ 24 * 2 ^ k in
    let z : size n ≡ 24 + k + 1 = size_is n (24 + k) (le_of_eq (pow-add 2 24 k)) (lt_of_le_of_lt (le_of_eq (sym (pow-add 2 24 k))) (pow-lt (less k))) in
    let y : size n - 24 ≡ k + 1 = ap (λ (x : ℕ). x - 24) z ∙ cut k in
    ap (λ (x : ℕ). x * 2 ^ 23 + n / 2 ^ x) y
    ∙ ap (λ (x : ℕ). (k + 1) * 2 ^ 23 + x / 2 ^ (k + 1)) (two_pow 24 k (23 + (k + 1)) (move k) ∙ pow-add 2 23 (k + 1))
    ∙ ap (λ (x : ℕ). (k + 1) * 2 ^ 23 + x) (mul-div_cancel (2 ^ 23) (pow_pos (k + 1)))
    ∙ last k
  where
    less : (k : ℕ) → 24 + k < 24 + k + 1
    less k = omega arith

    cut : (k : ℕ) → 24 + k + 1 - 24 ≡ k + 1
    cut k = omega arith

    move : (k : ℕ) → 24 + k ≡ 23 + (k + 1)
    move k = omega arith

    last : (k : ℕ) → (k + 1) * 8388608 + 8388608 ≡ k * 8388608 + 16777216
    last k = omega arith

subnormal : (q : ℕ) → q < 2 ^ 23 → magnitude (q * 1) ≡ 0 * 2 ^ 23 + q
subnormal q h =
    let y : size (q * 1) - 24 ≡ 0 = none (size (q * 1)) (size-le (q * 1) 23 (subst (λ (x : ℕ). x < 2 ^ 23) (sym (mul-one q)) h)) in
    ap (λ (x : ℕ). x * 2 ^ 23 + q * 1 / 2 ^ x) y ∙ ap (λ (x : ℕ). 0 * 2 ^ 23 + x) (div-one (q * 1) ∙ mul-one q)
  where
    none : (z : ℕ) → z ≤ 23 → z - 24 ≡ 0
    none z h = omega arith

magnitude-is : (q k : ℕ) → q ≤ 2 ^ 24 → Lead q k → magnitude (q * 2 ^ k) ≡ k * 2 ^ 23 + q
magnitude-is q k le lead = elim (eq-or-lt_of_le le) [
  | inl e ↦ subst (λ (x : ℕ). magnitude (x * 2 ^ k) ≡ k * 2 ^ 23 + x) (sym e) (carried k)
  | inr l ↦ go l lead (cases_lt q (2 ^ 23))
]
  where
    go : q < 2 ^ 24 → Lead q k → (q < 2 ^ 23) ⊎ (2 ^ 23 ≤ q) → magnitude (q * 2 ^ k) ≡ k * 2 ^ 23 + q
    go l h (inr g) = with_lead q k g l
    go l (inl g) (inl m) = with_lead q k g l
    go l (inr z) (inl m) = subst (λ (x : ℕ). magnitude (q * 2 ^ x) ≡ x * 2 ^ 23 + q) (sym z) (subnormal q m)

-- ---- the pattern read as a value

finite_pattern : (s : Bool) (q k : ℕ) → q ≤ 2 ^ 24 → Lead q k → q * 2 ^ k < 2 ^ 277 → T (fits binary32 (units binary32 s q k))
    → of_bits binary32 (sign s + (k * 2 ^ 23 + q)) ≡ units binary32 s q k
finite_pattern s q k a b c f =
    ap (of_bits binary32)
    (ap (λ (x : ℕ). sign s + x) (sym (magnitude-is q k a b)) ∙ sym (add_assoc (sign s) _ _) ∙ sym (to_bits_is binary32 (units binary32 s q k) s (q * 2 ^ k) (units_val binary32 s q k c)))
    ∙ of_bits-to_bits binary32 (units binary32 s q k) f

pub infinite_pattern : (s : Bool) → of_bits binary32 (sign s + 2139095040) ≡ inf s
unfolding of_bits
infinite_pattern true = refl
infinite_pattern false = refl

pub units_infinite : (s : Bool) (q k : ℕ) → 2 ^ 277 ≤ q * 2 ^ k → units binary32 s q k ≡ inf s
unfolding units
units_infinite s q k h =
    cond_no (ltb (q * 2 ^ k) (2 ^ 277)) (odd 25 s q k 149) (inf s)
    (not_T (ltb (q * 2 ^ k) (2 ^ 277)) (λ t. not-le_of_lt (ltb→lt (q * 2 ^ k) (2 ^ 277) t) h))

units_pattern : (s : Bool) (q k : ℕ) → q ≤ 2 ^ 24 → Lead q k → k ≤ 253 → T (fits binary32 (units binary32 s q k))
    → of_bits binary32 (sign s + (k * 2 ^ 23 + q)) ≡ units binary32 s q k
units_pattern s q k a b c f = go (eq-or-lt_of_le c) (eq-or-lt_of_le a)
  where
    less : (k : ℕ) → k ≤ 253 → 24 + k ≤ 277
    less k h = omega arith

    less' : (k : ℕ) → k < 253 → 24 + k < 277
    less' k h = omega arith

    go : (k ≡ 253) ⊎ (k < 253) → (q ≡ 2 ^ 24) ⊎ (q < 2 ^ 24) → of_bits binary32 (sign s + (k * 2 ^ 23 + q)) ≡ units binary32 s q k
    go (inl e) (inl g) =
        ap (λ (x : ℕ). of_bits binary32 (sign s + (x * 2 ^ 23 + q))) e
        ∙ ap (λ (x : ℕ). of_bits binary32 (sign s + (253 * 2 ^ 23 + x))) g
        ∙ infinite_pattern s
        ∙ sym (units_infinite s q k (le_of_eq (sym (ap (λ (x : ℕ). x * 2 ^ k) g ∙ ap (λ (x : ℕ). 2 ^ 24 * 2 ^ x) e))))
    go (inl e) (inr l) = finite_pattern s q k a b (lt_of_lt_of_le (shl_lt 24 k l) (pow_mono (less k c))) f
    go (inr l) g = finite_pattern s q k a b (lt_of_le_of_lt (le_trans (mul-le-mul_right (2 ^ k) a) (le_of_eq (sym (pow-add 2 24 k)))) (pow-lt (less' k l))) f

-- ---- what `round` makes of a / c, where it drops k digits and keeps q

pub round_units : (s : Bool) (a c k q : ℕ) → size (a * 2 ^ 149 / c) - 24 ≡ k → closest (a * 2 ^ 149) (c * 2 ^ k) ≡ q → round binary32 s a c ≡ units binary32 s q k
round_units s a c k q e h =
    round_is binary32 s a c
    ∙ ap (λ (x : ℕ). units binary32 s (closest (a * 2 ^ 149) (c * 2 ^ x)) x) e
    ∙ ap (λ (x : ℕ). units binary32 s x k) h

pub round_pattern : (s : Bool) (a c k q : ℕ) → size (a * 2 ^ 149 / c) - 24 ≡ k → closest (a * 2 ^ 149) (c * 2 ^ k) ≡ q → q ≤ 2 ^ 24 → Lead q k
    → k ≤ 253 → of_bits binary32 (sign s + (k * 2 ^ 23 + q)) ≡ round binary32 s a c
round_pattern s a c k q e h l m n =
    let is = round_units s a c k q e h in
    units_pattern s q k l m n (subst (λ (x : Float). T (fits binary32 x)) is (round-fits binary32 s a c)) ∙ sym is
