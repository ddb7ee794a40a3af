-- `narrow` by the fields of the bit pattern: overflow, normal results, subnormal results and zero. It depends on the value alone (`narrow-value`), so
-- each range of the exponent is arithmetic on the digits: those that are dropped are rounded by `closest`, and what is kept is the result's pattern.
use Rattle.std.proofs.Common.{◌≡◌, ℕ, zero, suc, ◌+◌, ◌-◌, ◌*◌, ◌/◌, ◌%◌, ◌^◌, ◌<◌, ◌≤◌, Bool, true, false, not, T, leb, ◌⊎◌, sym, refl, ap, ◌∙◌, subst, inl, inr, le_trans, le_of_eq, lt_of_lt_of_le, lt_of_le_of_lt, mul-le-mul_right, mod-eq_of_lt, zero-lt-suc, mul_assoc, div-lt_iff_lt-mul, mul-pos, le-div_iff_mul-le, zero-add, mul-one, arith, lit<, lit≤, leb→le, pow_pos, pow_mono, pow-add, shl_lt}
use Rattle.std.proofs.lemmas.Bool.{cases_lt}
use Rattle.std.proofs.lemmas.Nat.{one_shl}
use Prim.Native.Nat.{compare}
use native.Mathlib.Nat.{div-eq_of_lt}
use lib.Dec.{nleb→lt}
use lib.Pow.{pow-lt}
use lib.Ieee.{Float, nan, inf, fin, binary32, binary64, up, down, size, odd, round, nearest, fits, of_fields, of_bits, to_bits, is_nan, nan_bits}
use lib.Ieee.Digits.{size-le}
use lib.Ieee.Fits.{down_pos, nearest-le}
use lib.Ieee.Bits.{nan_bits_is}
use lib.Ieee.Exact.{HasValue, odd_sign}
use lib.Ieee.Nearest.{closest, closest_same, nearest-ge}
use lib.Ieee.Scale.{round_same}
use Rattle.numbers.specs.Conversions.{narrow}
use Rattle.numbers.specs.Parts.{Narrowed}
use Rattle.numbers.proofs.Laws.Order.{compare_lt}
use Rattle.numbers.proofs.Laws.Digits.{two_pow, size_is}
use Rattle.numbers.proofs.Laws.Floats.{round_signed, signed_not_nan}
use Rattle.numbers.proofs.Laws.Patterns.{normal-field, lead_lt, lead_le, pattern_lt, fields_of}
use Rattle.numbers.proofs.Laws.Binary32.{sign, infinite_pattern, units_infinite, round_units, round_pattern}

-- ---- `narrow` sees only the value

narrow-value : (v : Float) (s : Bool) (a c : ℕ) → 0 < c → HasValue v s a c → narrow v ≡ round binary32 s a c
unfolding narrow
narrow-value nan s a c C h = absurd h
narrow-value (inf t) s a c C h = absurd h
narrow-value (fin t m e) s a c C h =
    ap (λ (z : Bool). round binary32 z (m * up e) (down e)) h.0 ∙ round_same binary32 s (m * up e) (down e) a c (down_pos e) C h.1

narrow-normal : (s : Bool) (j t : ℕ) → suc j < 2047 → narrow (of_fields binary64 s (suc j) t) ≡ round binary32 s ((2 ^ 52 + t) * 2 ^ j) (2 ^ 1074)
narrow-normal s j t h =
    ap narrow (normal-field s j t h)
    ∙ narrow-value (odd 53 s (2 ^ 52 + t) j 1074) s ((2 ^ 52 + t) * 2 ^ j) (2 ^ 1074) (pow_pos 1074) (odd_sign 53 s (2 ^ 52 + t) j 1074)

-- ---- a result with 24 digits or more: of the digits d, 29 are dropped

module _ (d k j : ℕ) (lo : 2 ^ 52 ≤ d) (hi : d < 2 ^ 53) (at : j ≡ k + 896) where
  abbrev a : ℕ
  a = d * 2 ^ j

  as_one : a * 2 ^ 149 ≡ d * 2 ^ (k + 1045)
  as_one = mul_assoc d (2 ^ j) (2 ^ 149) ∙ ap (λ (x : ℕ). d * x) (two_pow j 149 (k + 1045) (go j k at))
    where
      go : (j k : ℕ) → j ≡ k + 896 → j + 149 ≡ k + 1045
      go j k h = omega arith

  dropped : size (a * 2 ^ 149 / 2 ^ 1074) - 24 ≡ k
  dropped =
      ap (λ (x : ℕ). x - 24) (size_is (a * 2 ^ 149 / 2 ^ 1074) (23 + k)
      ((le-div_iff_mul-le (pow_pos 1074)).1 (le_trans (le_of_eq (two_pow (23 + k) 1074 (52 + (k + 1045)) (e1 k) ∙ pow-add 2 52 (k + 1045))) (le_trans (mul-le-mul_right (2 ^ (k + 1045)) lo) (le_of_eq (sym as_one)))))
      ((div-lt_iff_lt-mul (pow_pos 1074)).1 (lt_of_le_of_lt (le_of_eq as_one) (lt_of_lt_of_le (shl_lt 53 (k + 1045) hi) (le_of_eq (sym (two_pow (23 + k + 1) 1074 (53 + (k + 1045)) (e2 k))))))))
      ∙ e3 k
    where
      e1 : (k : ℕ) → 23 + k + 1074 ≡ 52 + (k + 1045)
      e1 k = omega arith

      e2 : (k : ℕ) → 23 + k + 1 + 1074 ≡ 53 + (k + 1045)
      e2 k = omega arith

      e3 : (k : ℕ) → 23 + k + 1 - 24 ≡ k
      e3 k = omega arith

  kept_same : closest (a * 2 ^ 149) (2 ^ 1074 * 2 ^ k) ≡ closest d (2 ^ 29)
  kept_same = closest_same (a * 2 ^ 149) (2 ^ 1074 * 2 ^ k) d (2 ^ 29) (mul-pos (pow_pos 1074) (pow_pos k)) (pow_pos 29)
      (ap (λ (x : ℕ). x * 2 ^ 29) as_one ∙ mul_assoc d (2 ^ (k + 1045)) (2 ^ 29) ∙ ap (λ (x : ℕ). d * x) (two_pow (k + 1045) 29 (1074 + k) (e k) ∙ pow-add 2 1074 k))
    where
      e : (k : ℕ) → k + 1045 + 29 ≡ 1074 + k
      e k = omega arith

  kept_lo : 2 ^ 23 ≤ closest d (2 ^ 29)
  kept_lo = le_trans (go d lo) (nearest-ge (d / 2 ^ 29) (compare (d % 2 ^ 29 * 2) (2 ^ 29)))
    where
      go : (d : ℕ) → 4503599627370496 ≤ d → 8388608 ≤ d / 536870912
      go d h = omega arith

  kept_hi : closest d (2 ^ 29) ≤ 2 ^ 24
  kept_hi = le_trans (nearest-le (d / 2 ^ 29) (compare (d % 2 ^ 29 * 2) (2 ^ 29))) (go d hi)
    where
      go : (d : ℕ) → d < 9007199254740992 → suc (d / 536870912) ≤ 16777216
      go d h = omega arith

pub kept-normal : (t : ℕ) → t < 2 ^ 52 → closest (2 ^ 52 + t) (2 ^ 29) ≤ 2 ^ 24
kept-normal t b = kept_hi (2 ^ 52 + t) 0 896 (lead_le t) (lead_lt t b) refl

normal : (s : Bool) (k j t : ℕ) → t < 2 ^ 52 → j ≡ k + 896 → k ≤ 253
    → of_bits binary32 (sign s + (k * 2 ^ 23 + closest (2 ^ 52 + t) (2 ^ 29))) ≡ narrow (of_fields binary64 s (suc j) t)
normal s k j t h at l =
    let d = 2 ^ 52 + t in
    let lo = lead_le t in
    let hi = lead_lt t h in
    round_pattern s (d * 2 ^ j) (2 ^ 1074) k (closest d (2 ^ 29)) (dropped d k j lo hi at) (kept_same d k j lo hi at) (kept_hi d k j lo hi at)
    (inl (kept_lo d k j lo hi at)) l
    ∙ sym (narrow-normal s j t (go j k at l))
  where
    go : (j k : ℕ) → j ≡ k + 896 → k ≤ 253 → suc j < 2047
    go j k a b = omega arith

overflow : (s : Bool) (k j t : ℕ) → t < 2 ^ 52 → j ≡ k + 896 → 254 ≤ k → suc j < 2047 → of_bits binary32 (sign s + 2139095040) ≡ narrow (of_fields binary64 s (suc j) t)
overflow s k j t h at l m =
    let d = 2 ^ 52 + t in
    let lo = lead_le t in
    let hi = lead_lt t h in
    infinite_pattern s
    ∙ sym (narrow-normal s j t m ∙ round_units s (d * 2 ^ j) (2 ^ 1074) k (closest d (2 ^ 29)) (dropped d k j lo hi at) (kept_same d k j lo hi at)
    ∙ units_infinite s (closest d (2 ^ 29)) k (le_trans (pow_mono (go k l)) (le_trans (le_of_eq (pow-add 2 23 k)) (mul-le-mul_right (2 ^ k) (kept_lo d k j lo hi at)))))
  where
    go : (k : ℕ) → 254 ≤ k → 277 ≤ 23 + k
    go k h = omega arith

infinite : (s : Bool) → of_bits binary32 (sign s + 2139095040) ≡ narrow (of_fields binary64 s 2047 0)
unfolding narrow of_fields
infinite s = infinite_pattern s

-- ---- a subnormal result: sh of the digits are dropped

kept-subnormal : (d sh : ℕ) → d < 2 ^ 53 → 30 ≤ sh → closest d (2 ^ sh) ≤ 2 ^ 24
kept-subnormal d sh hi l =
    le_trans (nearest-le (d / 2 ^ sh) (compare (d % 2 ^ sh * 2) (2 ^ sh)))
    (e4 (d / 2 ^ sh) ((div-lt_iff_lt-mul (pow_pos sh)).1 (lt_of_lt_of_le hi (le_trans (pow_mono (e5 sh l)) (le_of_eq (pow-add 2 23 sh))))))
  where
    e4 : (x : ℕ) → x < 8388608 → suc x ≤ 16777216
    e4 x h = omega arith

    e5 : (sh : ℕ) → 30 ≤ sh → 53 ≤ 23 + sh
    e5 sh h = omega arith

subnormal : (s : Bool) (sh j t : ℕ) → t < 2 ^ 52 → j + sh ≡ 925 → 30 ≤ sh
    → of_bits binary32 (sign s + (0 * 2 ^ 23 + closest (2 ^ 52 + t) (2 ^ sh))) ≡ narrow (of_fields binary64 s (suc j) t)
subnormal s sh j t h at l =
    let d = 2 ^ 52 + t in
    let hi = lead_lt t h in
    let as_one : d * 2 ^ j * 2 ^ 149 ≡ d * 2 ^ (j + 149) = mul_assoc d (2 ^ j) (2 ^ 149) ∙ ap (λ (x : ℕ). d * x) (sym (pow-add 2 j 149)) in
    let w : d * 2 ^ j * 2 ^ 149 / 2 ^ 1074 < 2 ^ 23 =
    (div-lt_iff_lt-mul (pow_pos 1074)).1
    (lt_of_le_of_lt (le_of_eq as_one) (lt_of_lt_of_le (shl_lt 53 (j + 149) hi) (le_trans (pow_mono (e1 j sh at l)) (le_of_eq (pow-add 2 23 1074))))) in
    round_pattern s (d * 2 ^ j) (2 ^ 1074) 0 (closest d (2 ^ sh)) (e2 (size (d * 2 ^ j * 2 ^ 149 / 2 ^ 1074)) (size-le (d * 2 ^ j * 2 ^ 149 / 2 ^ 1074) 23 w))
    (closest_same (d * 2 ^ j * 2 ^ 149) (2 ^ 1074 * 2 ^ 0) d (2 ^ sh) (mul-pos (pow_pos 1074) (pow_pos 0)) (pow_pos sh)
    (ap (λ (x : ℕ). x * 2 ^ sh) as_one ∙ mul_assoc d (2 ^ (j + 149)) (2 ^ sh) ∙ ap (λ (x : ℕ). d * x) (two_pow (j + 149) sh 1074 (e3 j sh at) ∙ sym (mul-one (2 ^ 1074)))))
    (kept-subnormal d sh hi l)
    (inr refl) (lit≤ tt)
    ∙ sym (narrow-normal s j t (e6 j sh at))
  where
    e1 : (j sh : ℕ) → j + sh ≡ 925 → 30 ≤ sh → 53 + (j + 149) ≤ 23 + 1074
    e1 j sh a b = omega arith

    e2 : (z : ℕ) → z ≤ 23 → z - 24 ≡ 0
    e2 z h = omega arith

    e3 : (j sh : ℕ) → j + sh ≡ 925 → j + 149 + sh ≡ 1074
    e3 j sh a = omega arith

    e6 : (j sh : ℕ) → j + sh ≡ 925 → suc j < 2047
    e6 j sh a = omega arith

-- ---- a result of zero: less than half of the smallest value

nothing_kept : (n u : ℕ) → n * 2 < u → closest n u ≡ 0
nothing_kept n u h =
    let l : n < u = omega arith in
    ap (λ (x : ℕ). nearest x (compare (n % u * 2) u)) (div-eq_of_lt l)
    ∙ ap (λ (x : ℕ). nearest 0 (compare (x * 2) u)) (mod-eq_of_lt l)
    ∙ ap (nearest 0) (compare_lt (n * 2) u h)

zero_pattern : (s : Bool) (a : ℕ) → a < 2 ^ 924 → of_bits binary32 (sign s + 0) ≡ round binary32 s a (2 ^ 1074)
zero_pattern s a h =
    let l : a * 2 ^ 149 * 2 < 2 ^ 1074 = lt_of_le_of_lt (le_of_eq (mul_assoc a (2 ^ 149) 2)) (shl_lt 924 150 h) in
    let w : a * 2 ^ 149 / 2 ^ 1074 ≡ 0 = div-eq_of_lt (less (a * 2 ^ 149) (2 ^ 1074) l) in
    round_pattern s a (2 ^ 1074) 0 0
    (go (size (a * 2 ^ 149 / 2 ^ 1074)) (size-le (a * 2 ^ 149 / 2 ^ 1074) 0 (lt_of_le_of_lt (le_of_eq w) (zero-lt-suc 0))))
    (nothing_kept (a * 2 ^ 149) (2 ^ 1074) l) (lit≤ tt) (inr refl) (lit≤ tt)
  where
    less : (a b : ℕ) → a * 2 < b → a < b
    less a b h = omega arith

    go : (z : ℕ) → z ≤ 0 → z - 24 ≡ 0
    go z h = omega arith

tiny_subnormal : (s : Bool) (t : ℕ) → t < 2 ^ 52 → of_bits binary32 (sign s + 0) ≡ narrow (of_fields binary64 s 0 t)
unfolding of_fields
tiny_subnormal s t h =
    zero_pattern s (t * 2 ^ 0) (lt_of_lt_of_le (shl_lt 52 0 h) (pow_mono (lit≤ {m = 52 + 0} {n = 924} tt)))
    ∙ sym (narrow-value (odd 53 s t 0 1074) s (t * 2 ^ 0) (2 ^ 1074) (pow_pos 1074) (odd_sign 53 s t 0 1074))

tiny_normal : (s : Bool) (j t : ℕ) → t < 2 ^ 52 → j ≤ 871 → of_bits binary32 (sign s + 0) ≡ narrow (of_fields binary64 s (suc j) t)
tiny_normal s j t h l =
    zero_pattern s ((2 ^ 52 + t) * 2 ^ j) (lt_of_lt_of_le (shl_lt 53 j (lead_lt t h)) (pow_mono (go j l)))
    ∙ sym (narrow-normal s j t (go' j l))
  where
    go : (j : ℕ) → j ≤ 871 → 53 + j ≤ 924
    go j h = omega arith

    go' : (j : ℕ) → j ≤ 871 → suc j < 2047
    go' j h = omega arith

-- ---- the four answers of `narrow_fields`

pub narrowed-overflow : (e t : ℕ) → e < 2048 → t < 2 ^ 52 → (e ≡ 2047 → t ≡ 0) → 1151 ≤ e → Narrowed e t 2139095040
narrowed-overflow e t a b z h = record { small = lit< tt; is = λ s. go s (cases_lt e 2047) }
  where
    top : (e : ℕ) → e < 2048 → 2047 ≤ e → e ≡ 2047
    top e a b = omega arith

    go : (s : Bool) → (e < 2047) ⊎ (2047 ≤ e) → of_bits binary32 (sign s + 2139095040) ≡ narrow (of_fields binary64 s e t)
    go s (inr g) =
        let p : e ≡ 2047 = top e a g in
        infinite s ∙ ap (λ (x : ℕ). narrow (of_fields binary64 s 2047 x)) (sym (z p)) ∙ ap (λ (x : ℕ). narrow (of_fields binary64 s x t)) (sym p)
    go s (inl g) =
        let p : suc (e - 1) ≡ e = omega arith in
        overflow s (e - 897) (e - 1) t b (omega arith) (omega arith) (omega arith) ∙ ap (λ (x : ℕ). narrow (of_fields binary64 s x t)) p

pub narrowed-normal : (e t r : ℕ) → t < 2 ^ 52 → 897 ≤ e → e < 1151 → r ≡ closest (2 ^ 52 + t) (2 ^ 29) → Narrowed e t ((e - 897) * 2 ^ 23 + r)
narrowed-normal e t r b l h q =
    let hi = kept-normal t b in
    let p : suc (e - 1) ≡ e = omega arith in
    record {
      small = omega arith;
      is = λ s. ap (λ (x : ℕ). of_bits binary32 (sign s + ((e - 897) * 2 ^ 23 + x))) q
          ∙ normal s (e - 897) (e - 1) t b (omega arith) (omega arith) ∙ ap (λ (x : ℕ). narrow (of_fields binary64 s x t)) p;
    }

-- The divisor `1 << (926 - e)` is a power of two that `nearest` takes.
pub divisor : (e t : ℕ) → t < 2 ^ 52 → 873 ≤ e → e < 897 → (0 < 1 * 2 ^ (926 - e) % 2 ^ 64) × (2 ^ 52 + t < 2 ^ 53) × (1 * 2 ^ (926 - e) % 2 ^ 64 < 2 ^ 54)
divisor e t b l h =
    let z : 1 * 2 ^ (926 - e) % 2 ^ 64 ≡ 2 ^ (926 - e) = one_shl (926 - e) 64 (omega arith) in
    let k : 926 - e < 54 = omega arith in
    (subst (λ (x : ℕ). 0 < x) (sym z) (pow_pos (926 - e)), lead_lt t b, subst (λ (x : ℕ). x < 2 ^ 54) (sym z) (pow-lt k))

pub narrowed-subnormal : (e t r : ℕ) → t < 2 ^ 52 → 873 ≤ e → e < 897 → r ≡ closest (2 ^ 52 + t) (1 * 2 ^ (926 - e) % 2 ^ 64) → Narrowed e t r
narrowed-subnormal e t r b l h q =
    let z : 1 * 2 ^ (926 - e) % 2 ^ 64 ≡ 2 ^ (926 - e) = one_shl (926 - e) 64 (omega arith) in
    let q' : r ≡ closest (2 ^ 52 + t) (2 ^ (926 - e)) = q ∙ ap (closest (2 ^ 52 + t)) z in
    let p : suc (e - 1) ≡ e = omega arith in
    record {
      small = lt_of_le_of_lt (le_of_eq q') (lt_of_le_of_lt (kept-subnormal (2 ^ 52 + t) (926 - e) (lead_lt t b) (omega arith)) (lit< tt));
      is = λ s. ap (λ (x : ℕ). of_bits binary32 (sign s + x)) (q' ∙ sym (zero-add (closest (2 ^ 52 + t) (2 ^ (926 - e)))))
          ∙ subnormal s (926 - e) (e - 1) t b (omega arith) (omega arith) ∙ ap (λ (x : ℕ). narrow (of_fields binary64 s x t)) p;
    }

pub narrowed-zero : (e t : ℕ) → t < 2 ^ 52 → e < 873 → Narrowed e t 0
narrowed-zero zero t b h = record { small = lit< tt; is = λ s. tiny_subnormal s t b }
narrowed-zero (suc j) t b h = record { small = lit< tt; is = λ s. tiny_normal s j t b (omega arith) }

-- ---- the whole of `narrow`

pub narrow_nan : narrow nan ≡ nan
unfolding narrow
narrow_nan = refl

narrow_not_nan : (x : Float) → T (not (is_nan x)) → T (not (is_nan (narrow x)))
unfolding narrow is_nan
narrow_not_nan nan h = absurd h
narrow_not_nan (inf s) h = tt
narrow_not_nan (fin s m e) h = signed_not_nan s (round binary32 s (m * up e) (down e)) (round_signed binary32 s (m * up e) (down e))

sign-is : (b : ℕ) → b < 2 ^ 64 → b / 2 ^ 63 * 2 ^ 31 ≡ sign (leb (2 ^ 63) b)
sign-is b h = go (leb (2 ^ 63) b) (leb→le (2 ^ 63) b) (nleb→lt (2 ^ 63) b)
  where
    go : (t : Bool) → (T t → 2 ^ 63 ≤ b) → (T (not t) → b < 2 ^ 63) → b / 2 ^ 63 * 2 ^ 31 ≡ sign t
    go true p q = let l = p tt in omega arith
    go false p q = let l = q tt in omega arith

module _ (x : Float) (F : T (fits binary64 x)) (r : ℕ) (h : Narrowed (to_bits binary64 x % 2 ^ 63 / 2 ^ 52) (to_bits binary64 x % 2 ^ 52) r) where
  abbrev b : ℕ
  b = to_bits binary64 x

  pub narrow_pattern : of_bits binary32 (b / 2 ^ 63 * 2 ^ 31 + r) ≡ narrow x
  narrow_pattern = ap (λ (y : ℕ). of_bits binary32 (y + r)) (sign-is b (pattern_lt x F)) ∙ h.is (leb (2 ^ 63) b) ∙ ap narrow (fields_of x F)

  pub pattern_not_nan : T (not (is_nan x)) → T (not (nan_bits binary32 (b / 2 ^ 63 * 2 ^ 31 + r)))
  pattern_not_nan n = subst (λ (v : Bool). T (not v)) (sym (nan_bits_is binary32 (b / 2 ^ 63 * 2 ^ 31 + r) ∙ ap is_nan narrow_pattern)) (narrow_not_nan x n)
