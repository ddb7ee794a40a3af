-- Bit patterns: the pattern of a value, and the fields of a binary64. A value is read back from its pattern, so one that fits is the only one of its
-- number and sign (`same-value`), and rounding it gives it back (`round_own`).
use Rattle.std.proofs.Common.{◌≡◌, ℕ, zero, suc, ◌+◌, ◌-◌, ◌*◌, ◌/◌, ◌%◌, ◌^◌, ◌<◌, ◌≤◌, Bool, true, false, cond, not, ◌&&◌, T, eqb, ltb, leb, ℤ, pos, negsuc, sym, refl, ap, ◌∙◌, subst, le_of_eq, lt_of_lt_of_le, lt_of_le_of_lt, mod-lt, mul_assoc, lt_of_mul-lt-mul_right, mul-lt-mul_of_pos_right, zero-mul, mul-one, mul_right_comm, mul-div_cancel, arith, eqb→eq, ltb→lt, leb→le, pow_pos, pow-add}
use lib.Dec.{not_T}
use lib.Ieee.{Float, nan, inf, fin, Format, binary64, prec, emax, low, hid, top, up, down, size, odd, round, fits, of_fields, of_bits, to_bits, is_nan, nan_bits}
use lib.Ieee.Fits.{down_pos, round-fits, and_l, and_r, eq→eqb}
use lib.Ieee.Bits.{cond_no, of_bits-to_bits, to_bits-lt, nan_bits_is}
use lib.Ieee.Exact.{HasValue, round_exact}
use lib.Ieee.Scale.{round_same}
use Rattle.numbers.proofs.Laws.Digits.{two_pow, pow_le_back}

-- ---- the pattern of n smallest values
pub to_bits_is : (f : Format) (x : Float) (s : Bool) (n : ℕ) → HasValue x s n (2 ^ low f)
    → to_bits f x ≡ cond s (top f) 0 + (size n - prec f) * hid f + n / 2 ^ (size n - prec f)
unfolding to_bits
to_bits_is f nan s n h = absurd h
to_bits_is f (inf t) s n h = absurd h
to_bits_is f (fin t m e) s n h =
    ap (λ (x : ℕ). cond t (top f) 0 + (size x - prec f) * hid f + x / 2 ^ (size x - prec f)) (ap (λ (x : ℕ). x / down e) h.1 ∙ mul-div_cancel n (down_pos e))
    ∙ ap (λ (z : Bool). cond z (top f) 0 + (size n - prec f) * hid f + n / 2 ^ (size n - prec f)) h.0

pub same-value : (f : Format) (x y : Float) (s : Bool) (n : ℕ) → T (fits f x) → T (fits f y) → HasValue x s n (2 ^ low f) → HasValue y s n (2 ^ low f) → x ≡ y
same-value f x y s n F G h k =
    sym (of_bits-to_bits f x F) ∙ ap (of_bits f) (to_bits_is f x s n h ∙ sym (to_bits_is f y s n k)) ∙ of_bits-to_bits f y G

-- ---- the parts of `fits`, for a value that is not zero
pub fits-parts : (f : Format) (s : Bool) (m : ℕ) (e : ℤ) → T (fits f (fin s (suc m) e))
    → (suc m % 2 ≡ 1) × (suc m < 2 ^ prec f) × (down e ≤ 2 ^ low f) × (suc m * up e < 2 ^ suc (emax f) * down e)
unfolding fits
fits-parts f s m e h =
    let A = eqb (suc m % 2) 1 in
    let B = ltb (suc m) (2 ^ prec f) in
    let C = leb (down e) (2 ^ low f) in
    let D = ltb (suc m * up e) (2 ^ suc (emax f) * down e) in
    let u = and_l (A && B && C) D h in
    (eqb→eq (suc m % 2) 1 (and_l A B (and_l (A && B) C u)), ltb→lt (suc m) (2 ^ prec f) (and_r A B (and_l (A && B) C u)), leb→le (down e) (2 ^ low f) (and_r (A && B) C u), ltb→lt (suc m * up e) (2 ^ suc (emax f) * down e) (and_r (A && B && C) D h))

-- ---- m × 2^e is m × 2^j smallest values, each 2^-l, where j = e + l

abbrev pub Place : ℕ → ℤ → ℕ → Type 0
Place l (pos a) j = j ≡ a + l
Place l (negsuc a) j = j + suc a ≡ l

pub place : (l : ℕ) (e : ℤ) → down e ≤ 2 ^ l → (j : ℕ) × Place l e j × ((m : ℕ) → m * up e * 2 ^ l ≡ m * 2 ^ j * down e)
place l (pos a) h = (a + l, refl, λ m. mul_assoc m (2 ^ a) (2 ^ l) ∙ ap (λ (x : ℕ). m * x) (sym (pow-add 2 a l)) ∙ sym (mul-one (m * 2 ^ (a + l))))
place l (negsuc a) h =
    let k : suc a ≤ l = pow_le_back (suc a) l h in
    let p : l - suc a + suc a ≡ l = omega arith in
    (l - suc a, p, λ m. ap (λ (x : ℕ). x * 2 ^ l) (mul-one m) ∙ ap (λ (x : ℕ). m * x) (sym (two_pow (l - suc a) (suc a) l p)) ∙ sym (mul_assoc m (2 ^ (l - suc a)) (2 ^ suc a)))

-- ---- rounding a value that fits gives it back

round_units : (f : Format) (s : Bool) (m : ℕ) (e : ℤ) (j : ℕ) → T (fits f (fin s m e)) → m < 2 ^ prec f → m * 2 ^ j < 2 ^ (low f + suc (emax f))
    → m * up e * 2 ^ low f ≡ m * 2 ^ j * down e → round f s (m * up e) (down e) ≡ fin s m e
round_units f s m e j F small fine h =
    let n = m * 2 ^ j in
    round_same f s (m * up e) (down e) n (2 ^ low f) (down_pos e) (pow_pos (low f)) h
    ∙ same-value f (round f s n (2 ^ low f)) (fin s m e) s n (round-fits f s n (2 ^ low f)) F
    (round_exact f s n (2 ^ low f) m j (pow_pos (low f)) small fine refl) (refl, h)

pub round_own : (f : Format) (s : Bool) (m : ℕ) (e : ℤ) → T (fits f (fin s m e)) → round f s (m * up e) (down e) ≡ fin s m e
round_own f s zero e F = round_units f s zero e 0 F (pow_pos (prec f)) (pow_pos (low f + suc (emax f))) (none (0 * up e) (down e) (2 ^ low f) (zero-mul (up e)))
  where
    none : (a c l : ℕ) → a ≡ 0 → a * l ≡ 0 * 1 * c
    none a c l h = ap (λ (x : ℕ). x * l) h ∙ zero-mul l ∙ sym (zero-mul c)
round_own f s (suc m) e F =
    let P = fits-parts f s m e F in
    let p = place (low f) e P.2 in
    let j = p.0 in
    let same : suc m * up e * 2 ^ low f ≡ suc m * 2 ^ j * down e = p.2 (suc m) in
    let less : suc m * 2 ^ j * down e < 2 ^ (low f + suc (emax f)) * down e =
    lt_of_le_of_lt (le_of_eq (sym same))
    (lt_of_lt_of_le (mul-lt-mul_of_pos_right P.3 (pow_pos (low f))) (le_of_eq (mul_right_comm (2 ^ suc (emax f)) (down e) (2 ^ low f) ∙ ap (λ (x : ℕ). x * down e) (two_pow (suc (emax f)) (low f) (low f + suc (emax f)) (turn (emax f) (low f)))))) in
    round_units f s (suc m) e j F P.1 (lt_of_mul-lt-mul_right (down e) less) same
  where
    turn : (a b : ℕ) → suc a + b ≡ b + suc a
    turn a b = omega arith

-- ---- the fields of a binary64

pub of_bits_is : (b : ℕ) → of_bits binary64 b ≡ of_fields binary64 (leb (2 ^ 63) b) (b % 2 ^ 63 / 2 ^ 52) (b % 2 ^ 52)
unfolding of_bits
of_bits_is b = refl

pub normal-field : (s : Bool) (j t : ℕ) → suc j < 2047 → of_fields binary64 s (suc j) t ≡ odd 53 s (2 ^ 52 + t) j 1074
unfolding of_fields
normal-field s j t h =
    cond_no (eqb (suc j) 2047) (cond (eqb t 0) (inf s) nan) (odd 53 s (2 ^ 52 + t) j 1074)
    (not_T (eqb (suc j) 2047) (λ u. clash j h (eqb→eq (suc j) 2047 u)))
  where
    clash : (j : ℕ) → suc j < 2047 → suc j ≡ 2047 → ⊥
    clash j a b = omega arith

-- The digits with the leading one that a normal number has.
pub lead_lt : (t : ℕ) → t < 2 ^ 52 → 2 ^ 52 + t < 2 ^ 53
lead_lt t h = omega arith

pub lead_le : (t : ℕ) → 2 ^ 52 ≤ 2 ^ 52 + t
lead_le t = omega arith

module _ (x : Float) (F : T (fits binary64 x)) where
  abbrev b : ℕ
  b = to_bits binary64 x

  pub pattern_lt : b < 2 ^ 64
  pattern_lt = to_bits-lt binary64 x F

  pub fields_of : of_fields binary64 (leb (2 ^ 63) b) (b % 2 ^ 63 / 2 ^ 52) (b % 2 ^ 52) ≡ x
  fields_of = sym (of_bits_is b) ∙ of_bits-to_bits binary64 x F

  -- The ranges of the two fields; with all ones in the exponent field the digits are 0, as x is no NaN.
  pub field_ranges : T (not (is_nan x)) → (b % 2 ^ 63 / 2 ^ 52 < 2048) × (b % 2 ^ 52 < 2 ^ 52) × (b % 2 ^ 63 / 2 ^ 52 ≡ 2047 → b % 2 ^ 52 ≡ 0)
  unfolding nan_bits
  field_ranges n =
      let o : T (not (nan_bits binary64 b)) = subst (λ (v : Bool). T (not v)) (sym (nan_bits_is binary64 b ∙ ap is_nan (of_bits-to_bits binary64 x F))) n in
      (field b, mod-lt b (pow_pos 52), λ p. go (eqb (b % 2 ^ 63 / 2 ^ 52) 2047) (eqb (b % 2 ^ 52) 0) (eq→eqb p) (eqb→eq (b % 2 ^ 52) 0) o)
    where
      field : (b : ℕ) → b % 9223372036854775808 / 4503599627370496 < 2048
      field b = omega arith

      go : (u v : Bool) → T u → (T v → b % 2 ^ 52 ≡ 0) → T (not (u && not v)) → b % 2 ^ 52 ≡ 0
      go true true p k o = k tt
      go true false p k o = absurd o
      go false v p k o = absurd p
