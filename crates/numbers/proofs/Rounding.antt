-- `round_u64` by the fields of the bit pattern, and the largest count that a bounded number rounds to. It depends on the value alone (`round_value`),
-- and rounding half up is one division (`nearest_is`); so each range of the exponent is arithmetic.
use Rattle.std.proofs.Common.{◌≡◌, ℕ, zero, suc, ◌+◌, ◌-◌, ◌*◌, ◌/◌, ◌%◌, ◌^◌, ◌<◌, ◌≤◌, min, Bool, true, false, cond, not, T, ltb, leb, ◌⊎◌, pos, sym, refl, ap, ◌∙◌, subst, inl, inr, zero-le, le_trans, le_of_eq, lt_of_lt_of_le, le_of_suc-le-suc, mul-le-mul_right, mod-lt, zero-lt-suc, mul_assoc, suc-mul, mul_comm, div-lt_iff_lt-mul, add-mul, mul-pos, div-add-mod', le-div_iff_mul-le, mul-one, div-le_self, arith, lit≤, ltb→lt, nltb→le, pow_pos, pow_mono, pow-add, shl_lt, shl_exact}
use Rattle.std.proofs.lemmas.Bool.{cases_lt}
use Rattle.std.proofs.lemmas.Nat.{one_shl}
use Rattle.std.proofs.Math.Nat.{min-eq_right, min-eq_left}
use native.Mathlib.Nat.{mul-mul-mul_comm, div-eq_of_lt}
use lib.Pow.{pow-lt}
use lib.Ieee.{Float, nan, inf, fin, binary64, up, down, odd, of_fields, to_bits, fits}
use lib.Ieee.Fits.{down_pos}
use lib.Ieee.Exact.{HasValue, odd_sign}
use lib.Ieee.Nearest.{div_same}
use Rattle.numbers.specs.Conversions.{nearest_whole, round_u64}
use Rattle.numbers.proofs.Laws.Digits.{two_pow}
use Rattle.numbers.proofs.Laws.Patterns.{normal-field, lead_lt, lead_le, fields_of}
use Rattle.numbers.proofs.Laws.Zero.{Zero}
use Rattle.numbers.proofs.Laws.Bounds.{Upto}

-- ---- the nearest whole number as one division

abbrev half_up : ℕ → ℕ → ℕ
half_up a c = (a * 2 + c) / (c * 2)

nearest_is : (a c : ℕ) → 0 < c → nearest_whole a c ≡ half_up a c
nearest_is a c C = go (ltb (a % c * 2) c) (ltb→lt (a % c * 2) c) (nltb→le (a % c * 2) c)
  where
    between : (x q d : ℕ) → 0 < d → q * d ≤ x → x < suc q * d → q ≡ x / d
    between x q d D lo hi =
        let l : q ≤ x / d = (le-div_iff_mul-le D).1 lo in
        let h : x / d < suc q = (div-lt_iff_lt-mul D).1 hi in
        omega arith

    product : (q c : ℕ) → q * (c * 2) ≡ q * c * 2
    product q c = sym (mul_assoc q c 2)

    go : (t : Bool) → (T t → a % c * 2 < c) → (T (not t) → c ≤ a % c * 2) → cond t (a / c) (suc (a / c)) ≡ half_up a c
    go true p p' =
        let l = p tt in
        let whole = div-add-mod' a c in
        let lo = product (a / c) c in
        let hi = suc-mul (a / c) (c * 2) in
        between (a * 2 + c) (a / c) (c * 2) (mul-pos C (zero-lt-suc 1)) (omega arith) (omega arith)
    go false p p' =
        let l = p' tt in
        let below = mod-lt a C in
        let whole = div-add-mod' a c in
        let q = product (a / c) c in
        let lo = suc-mul (a / c) (c * 2) in
        let hi = suc-mul (suc (a / c)) (c * 2) in
        between (a * 2 + c) (suc (a / c)) (c * 2) (mul-pos C (zero-lt-suc 1)) (omega arith) (omega arith)

-- It depends on the number a / c alone.
half-same : (a c b d : ℕ) → 0 < c → 0 < d → a * d ≡ b * c → half_up a c ≡ half_up b d
half-same a c b d C D e =
    div_same (a * 2 + c) (c * 2) (b * 2 + d) (d * 2) (mul-pos C (zero-lt-suc 1)) (mul-pos D (zero-lt-suc 1))
    (add-mul (a * 2) c (d * 2) ∙ go a b c d e ∙ sym (add-mul (b * 2) d (c * 2)))
  where
    go : (a b c d : ℕ) → a * d ≡ b * c → a * 2 * (d * 2) + c * (d * 2) ≡ b * 2 * (c * 2) + d * (c * 2)
    go a b c d e =
        let p : a * 2 * (d * 2) ≡ a * d * 4 = mul-mul-mul_comm a 2 d 2 in
        let q : b * 2 * (c * 2) ≡ b * c * 4 = mul-mul-mul_comm b 2 c 2 in
        let r : c * (d * 2) ≡ c * d * 2 = sym (mul_assoc c d 2) in
        let w : d * (c * 2) ≡ c * d * 2 = sym (mul_assoc d c 2) ∙ ap (λ (x : ℕ). x * 2) (mul_comm d c) in
        omega arith

-- ---- `round_u64` sees only the value

round_value : (v : Float) (s : Bool) (a c : ℕ) → 0 < c → HasValue v s a c → round_u64 v ≡ cond s 0 (min (half_up a c) (2 ^ 64 - 1))
unfolding round_u64
round_value nan s a c C h = absurd h
round_value (inf t) s a c C h = absurd h
round_value (fin t m e) s a c C h =
    ap (λ (z : Bool). cond z 0 (min (nearest_whole (m * up e) (down e)) (2 ^ 64 - 1))) h.0
    ∙ ap (λ (z : ℕ). cond s 0 (min z (2 ^ 64 - 1))) (nearest_is (m * up e) (down e) (down_pos e) ∙ half-same (m * up e) (down e) a c (down_pos e) C h.1)

round_normal : (s : Bool) (j t : ℕ) → suc j < 2047 → round_u64 (of_fields binary64 s (suc j) t) ≡ cond s 0 (min (half_up ((2 ^ 52 + t) * 2 ^ j) (2 ^ 1074)) (2 ^ 64 - 1))
round_normal s j t h =
    ap round_u64 (normal-field s j t h)
    ∙ round_value (odd 53 s (2 ^ 52 + t) j 1074) s ((2 ^ 52 + t) * 2 ^ j) (2 ^ 1074) (pow_pos 1074) (odd_sign 53 s (2 ^ 52 + t) j 1074)

round_subnormal : (s : Bool) (t : ℕ) → round_u64 (of_fields binary64 s 0 t) ≡ cond s 0 (min (half_up (t * 2 ^ 0) (2 ^ 1074)) (2 ^ 64 - 1))
unfolding of_fields
round_subnormal s t = round_value (odd 53 s t 0 1074) s (t * 2 ^ 0) (2 ^ 1074) (pow_pos 1074) (odd_sign 53 s t 0 1074)

round_infinite : (s : Bool) → cond s 0 (2 ^ 64 - 1) ≡ round_u64 (of_fields binary64 s 2047 0)
unfolding round_u64 of_fields
round_infinite s = refl

-- ---- the four answers of `round_fields`

exceeds : (t j : ℕ) → 1086 ≤ j → 2 ^ 64 ≤ half_up ((2 ^ 52 + t) * 2 ^ j) (2 ^ 1074)
exceeds t j h =
    let p : 2 ^ 1138 ≤ (2 ^ 52 + t) * 2 ^ j = le_trans (pow_mono (e1 j h)) (le_trans (le_of_eq (pow-add 2 52 j)) (mul-le-mul_right (2 ^ j) (lead_le t))) in
    (le-div_iff_mul-le (mul-pos (pow_pos 1074) (zero-lt-suc 1))).1 (e2 (2 ^ 1138) ((2 ^ 52 + t) * 2 ^ j) (2 ^ 1074) p)
  where
    e1 : (j : ℕ) → 1086 ≤ j → 1138 ≤ 52 + j
    e1 j h = omega arith

    e2 : (a b c : ℕ) → a ≤ b → a * 2 ≤ b * 2 + c
    e2 a b c h = omega arith

pub rounded_saturated : (e t : ℕ) → e < 2048 → (e ≡ 2047 → t ≡ 0) → 1087 ≤ e → 2 ^ 64 - 1 ≡ round_u64 (of_fields binary64 false e t)
rounded_saturated e t a z h = go (cases_lt e 2047)
  where
    top : (e : ℕ) → e < 2048 → 2047 ≤ e → e ≡ 2047
    top e a b = omega arith

    less : (x : ℕ) → 18446744073709551616 ≤ x → 18446744073709551615 ≤ x
    less x h = omega arith

    go : (e < 2047) ⊎ (2047 ≤ e) → 2 ^ 64 - 1 ≡ round_u64 (of_fields binary64 false e t)
    go (inr g) =
        let p : e ≡ 2047 = top e a g in
        round_infinite false ∙ ap (λ (x : ℕ). round_u64 (of_fields binary64 false 2047 x)) (sym (z p)) ∙ ap (λ (x : ℕ). round_u64 (of_fields binary64 false x t)) (sym p)
    go (inl g) =
        let p : suc (e - 1) ≡ e = omega arith in
        sym
        (round_normal false (e - 1) t (omega arith) ∙ min-eq_right (less (half_up ((2 ^ 52 + t) * 2 ^ (e - 1)) (2 ^ 1074)) (exceeds t (e - 1) (omega arith))))
        ∙ ap (λ (x : ℕ). round_u64 (of_fields binary64 false x t)) p

pub rounded_whole : (e t : ℕ) → t < 2 ^ 52 → 1076 ≤ e → e < 1087 → (2 ^ 52 + t) * 2 ^ (e - 1075) % 2 ^ 64 ≡ round_u64 (of_fields binary64 false e t)
rounded_whole e t b l h =
    let d = 2 ^ 52 + t in
    let k = e - 1075 in
    let p : suc (e - 1) ≡ e = omega arith in
    let small : d * 2 ^ k < 2 ^ 64 = lt_of_lt_of_le (shl_lt 53 k (lead_lt t b)) (pow_mono (room e h)) in
    shl_exact 53 k 64 (lead_lt t b) (room e h)
    ∙ sym (round_normal false (e - 1) t (omega arith)
    ∙ ap (λ (x : ℕ). min x (2 ^ 64 - 1))
    (half-same (d * 2 ^ (e - 1)) (2 ^ 1074) (d * 2 ^ k) 1 (pow_pos 1074) (zero-lt-suc 0) (mul-one (d * 2 ^ (e - 1)) ∙ ap (λ (x : ℕ). d * x) (sym (two_pow k 1074 (e - 1) (omega arith))) ∙ sym (mul_assoc d (2 ^ k) (2 ^ 1074))))
    ∙ itself (d * 2 ^ k) small)
    ∙ ap (λ (x : ℕ). round_u64 (of_fields binary64 false x t)) p
  where
    room : (e : ℕ) → e < 1087 → 53 + (e - 1075) ≤ 64
    room e h = omega arith

    itself : (x : ℕ) → x < 18446744073709551616 → min ((x * 2 + 1) / 2) 18446744073709551615 ≡ x
    itself x h = omega arith

-- The divisor `1 << (1075 - e)`.
pub divisor : (e : ℕ) → 1022 ≤ e → e < 1076 → (1 * 2 ^ (1075 - e) % 2 ^ 64 ≡ 2 ^ (1075 - e)) × (0 < 1 * 2 ^ (1075 - e) % 2 ^ 64) × (1 * 2 ^ (1075 - e) % 2 ^ 64 < 2 ^ 54)
divisor e l h =
    let k : 1075 - e < 54 = omega arith in
    let z : 1 * 2 ^ (1075 - e) % 2 ^ 64 ≡ 2 ^ (1075 - e) = one_shl (1075 - e) 64 (omega arith) in
    (z, subst (λ (x : ℕ). 0 < x) (sym z) (pow_pos (1075 - e)), subst (λ (x : ℕ). x < 2 ^ 54) (sym z) (pow-lt k))

pub rounded_fraction : (e t : ℕ) → t < 2 ^ 52 → 1022 ≤ e → e < 1076 → half_up (2 ^ 52 + t) (1 * 2 ^ (1075 - e) % 2 ^ 64) ≡ round_u64 (of_fields binary64 false e t)
rounded_fraction e t b l h =
    let d = 2 ^ 52 + t in
    let u = 2 ^ (1075 - e) in
    let p : suc (e - 1) ≡ e = omega arith in
    let U' : 1075 - e < 54 = omega arith in
    let U : u < 2 ^ 54 = pow-lt U' in
    ap (half_up d) (divisor e l h).0
    ∙ sym (round_normal false (e - 1) t (omega arith)
    ∙ ap (λ (x : ℕ). min x (2 ^ 64 - 1))
    (half-same (d * 2 ^ (e - 1)) (2 ^ 1074) d u (pow_pos 1074) (pow_pos (1075 - e)) (mul_assoc d (2 ^ (e - 1)) u ∙ ap (λ (x : ℕ). d * x) (two_pow (e - 1) (1075 - e) 1074 (omega arith))))
    ∙ min-eq_left (le_trans (div-le_self (d * 2 + u) (u * 2)) (bound t u b U)))
    ∙ ap (λ (x : ℕ). round_u64 (of_fields binary64 false x t)) p
  where
    bound : (t u : ℕ) → t < 4503599627370496 → u < 18014398509481984 → (4503599627370496 + t) * 2 + u ≤ 18446744073709551615
    bound t u a b = omega arith

below_half : (a : ℕ) → a < 2 ^ 1073 → 0 ≡ min (half_up a (2 ^ 1074)) (2 ^ 64 - 1)
below_half a h = sym (ap (λ (x : ℕ). min x (2 ^ 64 - 1)) (div-eq_of_lt (go a (2 ^ 1073) h)))
  where
    go : (a c : ℕ) → a < c → a * 2 + c * 2 < c * 2 * 2
    go a c h = omega arith

pub rounded_zero : (e t : ℕ) → t < 2 ^ 52 → e < 1022 → 0 ≡ round_u64 (of_fields binary64 false e t)
rounded_zero zero t b h = below_half (t * 2 ^ 0) (lt_of_lt_of_le (shl_lt 52 0 b) (pow_mono (lit≤ {m = 52 + 0} {n = 1073} tt))) ∙ sym (round_subnormal false t)
rounded_zero (suc j) t b h =
    below_half ((2 ^ 52 + t) * 2 ^ j) (lt_of_lt_of_le (shl_lt 53 j (lead_lt t b)) (pow_mono (room j h))) ∙ sym (round_normal false j t (omega arith))
  where
    room : (j : ℕ) → suc j < 1022 → 53 + j ≤ 1073
    room j h = omega arith

-- ---- the whole of `round_to_u64`

pub rounded_negative : (e t : ℕ) → e < 2048 → (e ≡ 2047 → t ≡ 0) → 0 ≡ round_u64 (of_fields binary64 true e t)
rounded_negative zero t a z = sym (round_subnormal true t)
rounded_negative (suc j) t a z = go (cases_lt (suc j) 2047)
  where
    go : (suc j < 2047) ⊎ (2047 ≤ suc j) → 0 ≡ round_u64 (of_fields binary64 true (suc j) t)
    go (inr g) =
        let p : suc j ≡ 2047 = omega arith in
        round_infinite true ∙ ap (λ (x : ℕ). round_u64 (of_fields binary64 true 2047 x)) (sym (z p)) ∙ ap (λ (x : ℕ). round_u64 (of_fields binary64 true x t)) (sym p)
    go (inl g) = sym (round_normal true j t g)

pub round_nan : (x : Float) → x ≡ nan → 0 ≡ round_u64 x
unfolding round_u64
round_nan x h = sym (ap round_u64 h)

pub zero_rounds : (x : Float) → Zero x → round_u64 x ≡ 0
zero_rounds x z = ap round_u64 z.1 ∙ go z.0
  where
    go : (s : Bool) → round_u64 (fin s 0 (pos 0)) ≡ 0
    go true = unfold round_u64 in refl
    go false = unfold round_u64 in refl

pub round_fields_lem : (x : Float) → T (fits binary64 x) → (s : Bool) → leb (2 ^ 63) (to_bits binary64 x) ≡ s
    → round_u64 (of_fields binary64 s (to_bits binary64 x % 2 ^ 63 / 2 ^ 52) (to_bits binary64 x % 2 ^ 52)) ≡ round_u64 x
round_fields_lem x F s h =
    let b = to_bits binary64 x in
    ap (λ (y : Bool). round_u64 (of_fields binary64 y (b % 2 ^ 63 / 2 ^ 52) (b % 2 ^ 52))) (sym h) ∙ ap round_u64 (fields_of x F)

-- ---- the largest count

pub rounded_le : (x : Float) (B : ℕ) → Upto B x → round_u64 x ≤ B
unfolding round_u64
rounded_le nan B h = zero-le
rounded_le (inf s) B h = absurd h
rounded_le (fin true m e) B h = zero-le
rounded_le (fin false m e) B h =
    le_trans (min_le (nearest_whole (m * up e) (down e)) (2 ^ 64 - 1))
    (le_trans (le_of_eq (nearest_is (m * up e) (down e) (down_pos e)))
    (le_of_suc-le-suc ((div-lt_iff_lt-mul (mul-pos (down_pos e) (zero-lt-suc 1))).1
    (lt_of_lt_of_le (go (m * up e) (down e) (B * down e) (down_pos e) h) (le_of_eq (sym (suc-mul B (down e * 2) ∙ ap (λ (x : ℕ). x + down e * 2) (sym (mul_assoc B (down e) 2)))))))))
  where
    min_le : (a b : ℕ) → min a b ≤ a
    min_le a b = omega arith

    go : (a c X : ℕ) → 0 < c → a ≤ X → a * 2 + c < X * 2 + c * 2
    go a c X p q = omega arith
