-- L as `ln_1p` and `ln_of` compute it: the series a term at a time (`series_step`), the exponent as an i32, in whose range it is, and the branches of
-- `ln_1p`, each a case of the definition. That the fields of w's pattern are its m and e is `parts_by_fields`.
use Rattle.std.proofs.Common.{◌≡◌, ℕ, suc, ◌+◌, ◌-◌, ◌*◌, ◌/◌, ◌%◌, ◌^◌, ◌<◌, ◌≤◌, Bool, true, false, cond, not, ◌&&◌, T, ltb, ℤ, pos, negsuc, ◌+ℤ◌, ◌-ℤ◌, sym, refl, ap, ◌∙◌, subst, lt_of_lt_of_le, mod-lt, arith, lit<, lit≤, pow_pos, w32, SFits, to_z, of_z}
use Rattle.std.proofs.lemmas.Float.{not_nan_f64_bits}
use mathlib.Core.Bool.{false≢true}
use lib.IntN.{sub_ℕ}
use lib.Signed.{mag}
use mir.ValLaws.{to_z_pos, to_z-of_z}
use borrow.Author.Tests.{lt-leb}
use lib.Ieee.{Float, nan, inf, fin, binary64, add, of_bits, of_int, of_fields, to_bits, is_nan, fits, nan_bits, eq, lt, le}
use lib.Ieee.Bits.{to_bits-lt}
use lib.Ieee.Fits.{add-fits}
use lib.Ieee.Scale.{finite}
use Rattle.numbers.specs.Rounded.{◌⊕◌, ◌⊖◌, ◌⊗◌, ◌⊘◌}
use Rattle.numbers.specs.Constants as Constants
use Rattle.numbers.specs.Constants.{one, two, ln2}
use Rattle.numbers.specs.StandIns.{whole, ln_series, ln_of, ln_split, ln1p, significand, exponent}
use Rattle.numbers.proofs.Laws.Literals.{half', one', two'}
use Rattle.numbers.proofs.Laws.Patterns.{of_bits_is}
use Rattle.numbers.proofs.Laws.Zero.{Zero}
use Rattle.numbers.proofs.Significand.{field_significand, field_exponent, parts_by_fields}

-- w = 1 + a.
abbrev pub W : Float → Float
W a = one' ⊕ a

-- ---- the series

abbrev pub ratio : Float → Float
ratio m = (m ⊖ one') ⊘ (m ⊕ one')

abbrev pub first_term : Float
first_term = one' ⊘ of_bits binary64 0x4037_0000_0000_0000

pub series_step : (m n : ℕ) (s t : Float) → n ≡ suc m → ln_series m s (one' ⊘ whole (2 * m + 1) ⊕ (s ⊗ s) ⊗ t) ≡ ln_series n s t
unfolding ln_series of_bits
series_step m n s t h = rw h refl

pub series_done : (n : ℕ) (s t : Float) → n ≡ 0 → t ≡ ln_series n s t
unfolding ln_series
series_done n s t h = rw h refl

pub ln_of_is : (a w m : Float) (e e' : ℤ) (t : Float) → e' ≡ e → t ≡ ln_series 11 (ratio m) first_term
    → (of_int binary64 e' ⊗ ln2 ⊕ (two' ⊗ ratio m) ⊗ t) ⊗ (a ⊘ (w ⊖ one')) ≡ ln_of a w m e
unfolding ln_of of_bits of_int ln_series
ln_of_is a w m e e' t p q =
    ap (λ (x : ℤ). (of_int binary64 x ⊗ ln2 ⊕ (two ⊗ ratio m) ⊗ t) ⊗ (a ⊘ (w ⊖ one))) p
    ∙ ap (λ (x : Float). (of_int binary64 e ⊗ ln2 ⊕ (two ⊗ ratio m) ⊗ x) ⊗ (a ⊘ (w ⊖ one))) q

-- ---- the exponent E - 1023, as an i32

sub_mag : (E b : ℕ) → E < 4096 → b < 4096 → mag (sub_ℕ E b) < 4096
sub_mag E b h k = go (ltb E b)
  where
    go : (t : Bool) → mag (cond t (negsuc (b - suc E)) (pos (E - b))) < 4096
    go true = omega arith
    go false = omega arith

up_mag : (z : ℤ) → mag z < 4096 → mag (z +ℤ pos 1) < 8192
up_mag (pos a) h = omega arith
up_mag (negsuc a) h = go (ltb 1 (suc a))
  where
    go : (t : Bool) → mag (cond t (negsuc (suc a - 2)) (pos (1 - suc a))) < 8192
    go true = omega arith
    go false = omega arith

fits_i32 : (z : ℤ) (n : ℕ) → n ≤ 2147483648 → mag z < n → SFits w32 z
fits_i32 z n k h = record { sfits = lt_of_lt_of_le h k }

module _ (E : ℕ) (h : E < 4096) where
  pub field_cast : SFits w32 (pos E)
  field_cast = fits_i32 (pos E) 4096 (lit≤ tt) h

  field_is : to_z w32 E ≡ pos E
  field_is = to_z_pos w32 E (lt_of_lt_of_le h (lit≤ tt))

  pub exponent-fits : SFits w32 (to_z w32 E -ℤ pos 1023)
  exponent-fits = subst (λ (z : ℤ). SFits w32 (z -ℤ pos 1023)) (sym field_is)
      (fits_i32 (pos E -ℤ pos 1023) 4096 (lit≤ tt) (sub_mag E 1023 h (lit< tt)))

  abbrev stored : ℤ
  stored = to_z w32 (of_z w32 (to_z w32 E -ℤ pos 1023))

  stored_is : stored ≡ pos E -ℤ pos 1023
  stored_is = to_z-of_z w32 (to_z w32 E -ℤ pos 1023) exponent-fits ∙ ap (λ (z : ℤ). z -ℤ pos 1023) field_is

  pub raised_fits : SFits w32 (stored +ℤ pos 1)
  raised_fits = subst (λ (z : ℤ). SFits w32 (z +ℤ pos 1)) (sym stored_is)
      (fits_i32 (pos E -ℤ pos 1023 +ℤ pos 1) 8192 (lit≤ tt) (up_mag (pos E -ℤ pos 1023) (sub_mag E 1023 h (lit< tt))))

  raised_is : to_z w32 (of_z w32 (stored +ℤ pos 1)) ≡ pos E -ℤ pos 1023 +ℤ pos 1
  raised_is = to_z-of_z w32 (stored +ℤ pos 1) raised_fits ∙ ap (λ (z : ℤ). z +ℤ pos 1) stored_is

-- ---- the digits under the exponent field of 1

one_with_digits : (t : ℕ) → t < 2 ^ 52 → of_bits binary64 (t + 0x3ff0_0000_0000_0000) ≡ of_fields binary64 false 1023 t
one_with_digits t h =
    let p = t + 0x3ff0_0000_0000_0000 in
    of_bits_is p
    ∙ ap (λ (s : Bool). of_fields binary64 s (p % 2 ^ 63 / 2 ^ 52) (p % 2 ^ 52)) (lt-leb (2 ^ 63) p (omega arith))
    ∙ ap (λ (x : ℕ). of_fields binary64 false x (p % 2 ^ 52)) (e t h)
    ∙ ap (λ (x : ℕ). of_fields binary64 false 1023 x) (d t h)
  where
    e : (t : ℕ) → t < 4503599627370496 → (t + 4607182418800017408) % 9223372036854775808 / 4503599627370496 ≡ 1023
    e t h = omega arith

    d : (t : ℕ) → t < 4503599627370496 → (t + 4607182418800017408) % 4503599627370496 ≡ t
    d t h = omega arith

digits_not_nan : (t : ℕ) → t < 2 ^ 52 → T (not (nan_bits binary64 (t + 0x3ff0_0000_0000_0000)))
digits_not_nan t h = not_nan_f64_bits (t + 0x3ff0_0000_0000_0000) (go t h)
  where
    go : (t : ℕ) → t < 4503599627370496 → (t + 4607182418800017408) % 9223372036854775808 ≤ 9218868437227405312
    go t h = omega arith

-- ---- the branches of `ln_1p`

pub ln_same : (a : Float) → eq (W a) one' ≡ true → a ≡ ln1p a
unfolding ln1p of_bits
ln_same a h = simp h

pub ln_zero : (a : Float) → Zero a → Zero (ln1p a)
ln_zero a z = (z.0, ap ln1p z.1 ∙ sym (ln_same (fin z.0 0 (pos 0)) (go z.0)))
  where
    go : (s : Bool) → eq (W (fin s 0 (pos 0))) one' ≡ true
    go true = unfold eq add of_bits in refl
    go false = unfold eq add of_bits in refl

finite_below : (x : Float) → lt Constants.zero x ≡ true → (t : Bool) → lt x (inf false) ≡ t → finite x ≡ t
unfolding lt
finite_below nan h t k = absurd (false≢true h)
finite_below (inf true) h t k = absurd (false≢true h)
finite_below (inf false) h t k = k
finite_below (fin s m e) h t k = k

and_false : (b : Bool) → (b && false) ≡ false
and_false true = refl
and_false false = refl

pub ln_not_above : (a : Float) → eq (W a) one' ≡ false → lt (of_bits binary64 0) (W a) ≡ false → nan ≡ ln1p a
unfolding ln1p of_bits
ln_not_above a h k = simp (h, k, and_false (finite (W a)))

abbrev infinity' : Float
infinity' = of_bits binary64 0x7ff0_0000_0000_0000

pub ln_infinite : (a : Float) → eq (W a) one' ≡ false → lt (of_bits binary64 0) (W a) ≡ true → lt (W a) infinity' ≡ false → nan ≡ ln1p a
unfolding ln1p of_bits
ln_infinite a h k l = simp (h, k, finite_below (W a) k false l)

ln_parts : (a : Float) → eq (W a) one' ≡ false → lt (of_bits binary64 0) (W a) ≡ true → lt (W a) infinity' ≡ true
    → ln_split a (W a) (significand (W a)) (exponent (W a)) ≡ ln1p a
unfolding ln1p of_bits
ln_parts a h k l = simp (h, k, finite_below (W a) k true l)

split_halved : (m : Float) → le (of_bits binary64 0x3ff8_0000_0000_0000) m ≡ true → (a w : Float) (e : ℤ) → ln_of a w (m ⊗ half') (e +ℤ pos 1) ≡ ln_split a w m e
unfolding ln_split of_bits
split_halved m h a w e = simp h

split-kept : (m : Float) → le (of_bits binary64 0x3ff8_0000_0000_0000) m ≡ false → (a w : Float) (e : ℤ) → ln_of a w m e ≡ ln_split a w m e
unfolding ln_split of_bits
split-kept m h a w e = simp h

pub positive_not_nan : (x : Float) → lt (of_bits binary64 0) x ≡ true → T (not (is_nan x))
unfolding lt is_nan of_bits
positive_not_nan nan h = absurd (false≢true h)
positive_not_nan (inf s) h = tt
positive_not_nan (fin s m e) h = tt

module _ (a : Float) (F : T (fits binary64 a)) (h : eq (W a) one' ≡ false) (k : lt (of_bits binary64 0) (W a) ≡ true) (l : lt (W a) infinity' ≡ true) where
  abbrev b : ℕ
  b = to_bits binary64 (W a)

  pub field_lt : b / 2 ^ 52 < 4096
  field_lt = go b (to_bits-lt binary64 (W a) (add-fits binary64 one' a))
    where
      go : (b : ℕ) → b < 18446744073709551616 → b / 4503599627370496 < 4096
      go b h = omega arith

  abbrev m' : Float
  m' = of_bits binary64 (b % 2 ^ 52 + 0x3ff0_0000_0000_0000)

  digits : b % 2 ^ 52 < 2 ^ 52
  digits = mod-lt b (pow_pos 52)

  significand-is : m' ≡ significand (W a)
  unfolding field_significand of_bits
  significand-is = one_with_digits (b % 2 ^ 52) digits ∙ (parts_by_fields a F k l).0

  exponent-is : pos (b / 2 ^ 52) -ℤ pos 1023 ≡ exponent (W a)
  unfolding field_exponent of_bits
  exponent-is = (parts_by_fields a F k l).1

  by_parts : ln_split a (W a) m' (pos (b / 2 ^ 52) -ℤ pos 1023) ≡ ln1p a
  by_parts =
      ap (λ (m : Float). ln_split a (W a) m (pos (b / 2 ^ 52) -ℤ pos 1023)) significand-is
      ∙ ap (λ (e : ℤ). ln_split a (W a) (significand (W a)) e) exponent-is
      ∙ ln_parts a h k l

  pub m_not_nan : T (not (nan_bits binary64 (b % 2 ^ 52 + 0x3ff0_0000_0000_0000)))
  m_not_nan = digits_not_nan (b % 2 ^ 52) digits

  pub ln_halved : (r : Float) → le (of_bits binary64 0x3ff8_0000_0000_0000) m' ≡ true
      → r ≡ ln_of a (W a) (m' ⊗ half') (to_z w32 (of_z w32 (stored (b / 2 ^ 52) field_lt +ℤ pos 1))) → r ≡ ln1p a
  ln_halved r t e =
      e ∙ ap (ln_of a (W a) (m' ⊗ half')) (raised_is (b / 2 ^ 52) field_lt)
      ∙ split_halved m' t a (W a) (pos (b / 2 ^ 52) -ℤ pos 1023) ∙ by_parts

  pub ln_kept : (r : Float) → le (of_bits binary64 0x3ff8_0000_0000_0000) m' ≡ false → r ≡ ln_of a (W a) m' (stored (b / 2 ^ 52) field_lt) → r ≡ ln1p a
  ln_kept r t e = e ∙ ap (ln_of a (W a) m') (stored_is (b / 2 ^ 52) field_lt) ∙ split-kept m' t a (W a) (pos (b / 2 ^ 52) -ℤ pos 1023) ∙ by_parts
