-- The parts of L's w: `significand` and `exponent` are m and e of w = m × 2^e with 1 ≤ m < 2 (`normalised`), and the fields of w's bit pattern give
-- them (`parts_by_fields`), since w = 1 + a is normal: where it is above 0 it is 2^-53 at least.
use Rattle.std.proofs.Common.{◌≡◌, ℕ, zero, suc, ◌+◌, ◌-◌, ◌*◌, ◌/◌, ◌%◌, ◌^◌, ◌<◌, ◌≤◌, Bool, true, false, cond, not, T, ltb, leb, ◌⊎◌, ℤ, pos, negsuc, ◌+ℤ◌, ◌-ℤ◌, neg_ℤ, sym, refl, ap, ◌∙◌, subst, inl, inr, le_trans, le_of_eq, lt_of_lt_of_le, le_of_suc-le-suc, lt_of_le_of_lt, lt_irrefl, mul-le-mul_right, zero-lt-suc, mul_assoc, eq-zero-or-pos, mul-le-mul_left, mul-pos, one-mul, lt_of_not-le, zero-add, zero-mul, mul-one, le_of_mul-le-mul_right, mul-div_cancel, mul_left_comm, arith, lit<, lit≤, ltb→lt, lt→ltb, leb→le, nltb→le, pow_pos, pow_mono, ltb-true}
use Rattle.std.proofs.lemmas.Bool.{cases_lt}
use mathlib.Core.Bool.{false≢true}
use native.Mathlib.Nat.{pow-succ'}
use lib.IntN.{sub_ℕ, +ℤ_comm, +ℤ-neg_ℤ_cancel}
use lib.Dec.{nleb→lt, leb-suc-zero}
use lib.Bits.{shifted_half, shifted_even}
use lib.Count.{count_trailing_zeros, under}
use lib.Ieee.{Float, nan, inf, fin, binary64, up, down, minus, size, odd, fits, of_fields, to_bits, round, lt, le, eq, add, sum}
use lib.Ieee.Digits.{size-lt, size-le, size_reaches}
use lib.Ieee.Fits.{add-fits, down_pos}
use lib.Ieee.Order.{round_mono, le_of_values}
use Rattle.numbers.specs.Constants as Constants
use Rattle.numbers.specs.Constants.{one, two}
use Rattle.numbers.specs.StandIns.{significand, exponent}
use Rattle.numbers.proofs.Laws.Digits.{two_pow, size-pos, size_shift}
use Rattle.numbers.proofs.Laws.Zero.{round_zero}
use Rattle.numbers.proofs.Laws.Floats.{Signed, round_signed, le_says}
use Rattle.numbers.proofs.Laws.Patterns.{to_bits_is, fits-parts, Place, place, normal-field}

-- ---- m and e are what document 01 says

abbrev scaled : Float → ℤ → Float
scaled nan k = nan
scaled (inf s) k = inf s
scaled (fin s m e) k = fin s m (e +ℤ k)

-- w = m × 2^e with 1 ≤ m < 2.
pub record Normalised (w m : Float) (e : ℤ) : Type 0 where
  pub same : scaled m e ≡ w
  pub least : T (le one m)
  pub below : T (lt m two)

minus_zero : (k : ℕ) → minus 0 k ≡ neg_ℤ (pos k)
minus_zero zero = refl
minus_zero (suc k) = ap (λ (t : Bool). cond t (pos (0 - suc k)) (negsuc (suc k - 1))) (leb-suc-zero k) ∙ ap negsuc (less k)
  where
    less : (k : ℕ) → suc k - 1 ≡ k
    less k = omega arith

up_back : (k : ℕ) → up (neg_ℤ (pos k)) ≡ 1
up_back zero = refl
up_back (suc k) = refl

down_back : (k : ℕ) → down (neg_ℤ (pos k)) ≡ 2 ^ k
down_back zero = refl
down_back (suc k) = refl

pub normalised : (m : ℕ) (e : ℤ) → Normalised (fin false (suc m) e) (significand (fin false (suc m) e)) (exponent (fin false (suc m) e))
unfolding significand exponent lt
normalised m e =
    let k = size (suc m) - 1 in
    let d = neg_ℤ (pos k) in
    let Z = size-pos (suc m) (zero-lt-suc m) in
    let at : minus 0 k ≡ d = minus_zero k in
    let reach : 2 ^ k ≤ suc m = size_reaches (suc m) k (less (size (suc m)) Z) in
    let under : suc m < 2 ^ suc k = subst (λ (x : ℕ). suc m < 2 ^ x) (back (size (suc m)) Z) (size-lt (suc m)) in
    record {
      same = ap (λ (x : ℤ). fin false (suc m) (x +ℤ (e +ℤ pos k))) at ∙ ap (λ (x : ℤ). fin false (suc m) x) (+ℤ_comm d (e +ℤ pos k) ∙ +ℤ-neg_ℤ_cancel e (pos k));
      least =
          subst (λ (x : ℤ). T (le one (fin false (suc m) x))) (sym at)
          (le_of_values one (fin false (suc m) d) 1 1 (suc m) (2 ^ k) (zero-lt-suc 0) (pow_pos k) (refl, refl) (refl, value k) (tidy (2 ^ k) (suc m) reach));
      below = subst (λ (x : ℤ). T (lt (fin false (suc m) x) two)) (sym at) (lt→ltb (suc m * up d * 1) (2 * down d) (small k under));
    }
  where
    less : (z : ℕ) → 0 < z → z - 1 < z
    less z h = omega arith

    back : (z : ℕ) → 0 < z → z ≡ suc (z - 1)
    back z h = omega arith

    tidy : (a b : ℕ) → a ≤ b → 1 * a ≤ b * 1
    tidy a b h = omega arith

    value : (k : ℕ) → suc m * up (neg_ℤ (pos k)) * 2 ^ k ≡ suc m * down (neg_ℤ (pos k))
    value k = ap (λ (x : ℕ). suc m * x * 2 ^ k) (up_back k) ∙ ap (λ (x : ℕ). x * 2 ^ k) (mul-one (suc m)) ∙ ap (λ (x : ℕ). suc m * x) (sym (down_back k))

    small : (k : ℕ) → suc m < 2 ^ suc k → suc m * up (neg_ℤ (pos k)) * 1 < 2 * down (neg_ℤ (pos k))
    small k h = rw (up_back k, down_back k) (go (suc m) (2 ^ k) (2 ^ suc k) h (pow-succ' 2 k))
      where
        go : (a b c : ℕ) → a < c → c ≡ 2 * b → a * 1 * 1 < 2 * b
        go a b c h e = omega arith

-- ---- differences of natural numbers as integers

sub_same : (x y a b : ℕ) → x + b ≡ a + y → sub_ℕ x y ≡ sub_ℕ a b
sub_same x y a b h = go (ltb x y) (ltb a b) (ltb→lt x y) (nltb→le x y) (ltb→lt a b) (nltb→le a b)
  where
    go : (t u : Bool) → (T t → x < y) → (T (not t) → y ≤ x) → (T u → a < b) → (T (not u) → b ≤ a)
        → cond t (negsuc (y - suc x)) (pos (x - y)) ≡ cond u (negsuc (b - suc a)) (pos (a - b))
    go true true p p' q q' = let k = p tt in let l = q tt in ap negsuc (omega arith)
    go true false p p' q q' = let k = p tt in let l = q' tt in absurd (omega arith)
    go false true p p' q q' = let k = p' tt in let l = q tt in absurd (omega arith)
    go false false p p' q q' = let k = p' tt in let l = q' tt in ap pos (omega arith)

minus_is : (a b : ℕ) → minus a b ≡ sub_ℕ a b
minus_is a b = go (leb b a) (ltb a b) (leb→le b a) (nleb→lt b a) (ltb→lt a b) (nltb→le a b)
  where
    go : (t u : Bool) → (T t → b ≤ a) → (T (not t) → a < b) → (T u → a < b) → (T (not u) → b ≤ a)
        → cond t (pos (a - b)) (negsuc (b - suc a)) ≡ cond u (negsuc (b - suc a)) (pos (a - b))
    go true true p p' q q' = let k = p tt in let l = q tt in absurd (omega arith)
    go true false p p' q q' = refl
    go false true p p' q q' = refl
    go false false p p' q q' = let k = p' tt in let l = q' tt in absurd (omega arith)

sub_zero : (x : ℕ) → sub_ℕ x 0 ≡ pos x
sub_zero x = ap (λ (t : Bool). cond t (negsuc (0 - suc x)) (pos (x - 0))) (leb-suc-zero x) ∙ ap pos (go x)
  where
    go : (x : ℕ) → x - 0 ≡ x
    go x = omega arith

-- ---- an odd number with i zeros after it is written as itself

trailing_shift : (d m i : ℕ) → m % 2 ≡ 1 → i < d → count_trailing_zeros d (m * 2 ^ i) ≡ i
unfolding count_trailing_zeros
trailing_shift zero m i o h = absurd (omega arith)
trailing_shift (suc d) m zero o h = ap (λ (x : ℕ). under (x % 2) (count_trailing_zeros d (x / 2))) (mul-one m) ∙ ap (λ (r : ℕ). under r (count_trailing_zeros d (m / 2))) o
trailing_shift (suc d) m (suc i) o h =
    ap (λ (r : ℕ). under r (count_trailing_zeros d (m * 2 ^ suc i / 2))) (shifted_even m i) ∙ ap (λ (x : ℕ). suc (count_trailing_zeros d x)) (shifted_half m i)
    ∙ ap suc (trailing_shift d m i o (le_of_suc-le-suc h))

odd_positive : (d : ℕ) (s : Bool) (q k l : ℕ) → 0 < q → odd d s q k l ≡ fin s (q / 2 ^ count_trailing_zeros d q) (minus (k + count_trailing_zeros d q) l)
unfolding odd
odd_positive d s zero k l h = absurd (lt_irrefl 0 h)
odd_positive d s (suc q) k l h = refl

odd_shift : (d : ℕ) (s : Bool) (m i k l : ℕ) → 0 < m → m % 2 ≡ 1 → i < d → odd d s (m * 2 ^ i) k l ≡ fin s m (minus (k + i) l)
odd_shift d s m i k l M o h =
    odd_positive d s (m * 2 ^ i) k l (mul-pos M (pow_pos i))
    ∙ ap (λ (t : ℕ). fin s (m * 2 ^ i / 2 ^ t) (minus (k + t) l)) (trailing_shift d m i o h)
    ∙ ap (λ (x : ℕ). fin s x (minus (k + i) l)) (mul-div_cancel m (pow_pos i))

-- ---- the fields of a normal w: the digits under the exponent field of 1, and the exponent field less its bias

unfoldable pub field_significand : Float → Float
field_significand w = of_fields binary64 false 1023 (to_bits binary64 w % 2 ^ 52)

unfoldable pub field_exponent : Float → ℤ
field_exponent w = pos (to_bits binary64 w / 2 ^ 52) -ℤ pos 1023

exponent_of : (e : ℤ) (j z k : ℕ) → Place 1074 e j → 0 < z → k + 53 ≡ z + j → sub_ℕ (k + 1) 1023 ≡ e +ℤ pos (z - 1)
exponent_of (pos a) j z k p h g = sub_same (k + 1) 1023 (a + (z - 1)) 0 (omega arith) ∙ sub_zero (a + (z - 1))
exponent_of (negsuc a) j z k p h g = sub_same (k + 1) 1023 (z - 1) (suc a) (omega arith)

top_digit : (k q b : ℕ) → 4503599627370496 ≤ q → q < 9007199254740992 → b ≡ k * 4503599627370496 + q
    → (b / 4503599627370496 ≡ k + 1) × (4503599627370496 + b % 4503599627370496 ≡ q)
top_digit k q b h l e = omega arith

module _ (m : ℕ) (e : ℤ) (F : T (fits binary64 (fin false (suc m) e))) (N : 2 ^ 52 * down e ≤ suc m * up e * 2 ^ 1074) where
  parts_of_normal : (field_significand (fin false (suc m) e) ≡ significand (fin false (suc m) e)) × (field_exponent (fin false (suc m) e) ≡ exponent (fin false (suc m) e))
  unfolding field_significand significand field_exponent exponent
  parts_of_normal =
      let P = fits-parts binary64 false m e F in
      let pl = place 1074 e P.2 in
      let M = zero-lt-suc m in
      let z = size (suc m) in
      let j = pl.0 in
      let n = suc m * 2 ^ j in
      let i = 53 - z in
      let k = z + j - 53 in
      let q = suc m * 2 ^ i in
      let Z : 0 < z = size-pos (suc m) M in
      let Z53 : z ≤ 53 = size-le (suc m) 53 P.1 in
      let big : 2 ^ 52 ≤ n = le_of_mul-le-mul_right (le_trans N (le_of_eq (pl.2 (suc m)))) (down_pos e) in
      let full : 52 < z + j =
      subst (λ (x : ℕ). 52 < x) (size_shift (suc m) j M)
      (lt_of_not-le (λ (g : size n ≤ 52). lt_irrefl (2 ^ 52) (lt_of_le_of_lt big (lt_of_lt_of_le (size-lt n) (pow_mono g))))) in
      let kk : k + 53 ≡ z + j = t1 z j full in
      let cut : q * 2 ^ k ≡ n = mul_assoc (suc m) (2 ^ i) (2 ^ k) ∙ ap (λ (x : ℕ). suc m * x) (two_pow i k j (t2 z j Z53 full)) in
      let sq : size q ≡ 53 = size_shift (suc m) i M ∙ t3 z Z53 in
      let q-lo : 2 ^ 52 ≤ q = size_reaches q 52 (t4 (size q) sq) in
      let q-hi : q < 2 ^ 53 = subst (λ (x : ℕ). q < 2 ^ x) sq (size-lt q) in
      let bits : to_bits binary64 (fin false (suc m) e) ≡ k * 2 ^ 52 + q =
      to_bits_is binary64 (fin false (suc m) e) false n (refl, pl.2 (suc m))
      ∙ ap (λ (x : ℕ). x + n / 2 ^ (size n - 53)) (zero-add ((size n - 53) * 2 ^ 52))
      ∙ ap (λ (x : ℕ). (x - 53) * 2 ^ 52 + n / 2 ^ (x - 53)) (size_shift (suc m) j M)
      ∙ ap (λ (x : ℕ). k * 2 ^ 52 + x) (ap (λ (x : ℕ). x / 2 ^ k) (sym cut) ∙ mul-div_cancel q (pow_pos k)) in
      let b = to_bits binary64 (fin false (suc m) e) in
      let top = top_digit k q b q-lo q-hi bits in (
        normal-field false 1022 (b % 2 ^ 52) (lit< tt)
            ∙ ap (λ (x : ℕ). odd 53 false x 1022 1074) top.1
            ∙ odd_shift 53 false (suc m) i 1022 1074 M P.0 (t5 z Z)
            ∙ ap (λ (x : ℤ). fin false (suc m) x) (minus_is (1022 + i) 1074 ∙ sub_same (1022 + i) 1074 0 (z - 1) (t6 z Z Z53) ∙ sym (minus_is 0 (z - 1))),
        ap (λ (x : ℕ). sub_ℕ x 1023) top.0 ∙ exponent_of e j z k pl.1 Z kk,
      )
    where
      t1 : (z j : ℕ) → 52 < z + j → z + j - 53 + 53 ≡ z + j
      t1 z j h = omega arith

      t2 : (z j : ℕ) → z ≤ 53 → 52 < z + j → 53 - z + (z + j - 53) ≡ j
      t2 z j h k = omega arith

      t3 : (z : ℕ) → z ≤ 53 → z + (53 - z) ≡ 53
      t3 z h = omega arith

      t4 : (x : ℕ) → x ≡ 53 → 52 < x
      t4 x h = omega arith

      t5 : (z : ℕ) → 0 < z → 53 - z < 53
      t5 z h = omega arith

      t6 : (z : ℕ) → 0 < z → z ≤ 53 → 1022 + (53 - z) + (z - 1) ≡ 0 + 1074
      t6 z h k = omega arith

-- ---- 1 + a, where it is above 0, is 2^-53 at least, so it is normal

abbrev smallest : Float
smallest = fin false 1 (negsuc 52)

smallest-is : round binary64 false 1 (2 ^ 53) ≡ smallest
unfolding round
smallest-is = refl

at_least : (b c : ℕ) → 0 < c → c ≤ b * 2 ^ 53 → T (le smallest (round binary64 false b c))
at_least b c C h =
    subst (λ (x : Float). T (le x (round binary64 false b c))) smallest-is
    (round_mono binary64 1 (2 ^ 53) b c (pow_pos 53) C (le_trans (le_of_eq (one-mul c)) h))

negative_not_above : (x : Float) → Signed true x → lt Constants.zero x ≡ true → ⊥
unfolding lt
negative_not_above nan s h = s
negative_not_above (inf true) s h = false≢true h
negative_not_above (inf false) s h = false≢true s
negative_not_above (fin true m e) s h = false≢true h
negative_not_above (fin false m e) s h = false≢true s

zero_not_above : lt Constants.zero Constants.zero ≡ true → ⊥
unfolding lt
zero_not_above h = false≢true h

-- 1 - n × 2^d, where it is above 0, is a 2^53rd at least.
gap : (n : ℕ) (d : ℤ) → T (fits binary64 (fin true n d)) → 0 < 1 * down d - n * up d * 1 → 1 * down d ≤ (1 * down d - n * up d * 1) * 2 ^ 53
gap zero d F h = none (down d) (0 * up d) (zero-mul (up d))
  where
    none : (a b : ℕ) → b ≡ 0 → 1 * a ≤ (1 * a - b * 1) * 9007199254740992
    none a b e = omega arith
gap (suc n) (pos k) F h = le_trans (lit≤ {m = 1} {n = 2 ^ 53} tt) (le_trans (le_of_eq (sym (one-mul (2 ^ 53)))) (mul-le-mul_right (2 ^ 53) h))
gap (suc n) (negsuc k) F h = go (cases_lt 53 (suc k))
  where
    far : (N A X : ℕ) → N < 9007199254740992 → A ≡ 2 * X → 9007199254740992 ≤ X → 1 * A ≤ (1 * A - N * 1 * 1) * 9007199254740992
    far N A X a b c = omega arith

    go : (53 < suc k) ⊎ (suc k ≤ 53) → 1 * 2 ^ suc k ≤ (1 * 2 ^ suc k - suc n * 1 * 1) * 2 ^ 53
    go (inr l) = le_trans (le_trans (le_of_eq (one-mul (2 ^ suc k))) (pow_mono l)) (le_trans (le_of_eq (sym (one-mul (2 ^ 53)))) (mul-le-mul_right (2 ^ 53) h))
    go (inl l) = far (suc n) (2 ^ suc k) (2 ^ k) (fits-parts binary64 true n (negsuc k) F).1 (pow-succ' 2 k) (pow_mono (le_of_suc-le-suc l))

sum_at_least : (a : Float) → T (fits binary64 a) → lt Constants.zero (add binary64 one a) ≡ true → lt (add binary64 one a) (inf false) ≡ true
    → T (le smallest (add binary64 one a))
unfolding add sum
sum_at_least nan F h k = unfold lt in absurd (false≢true h)
sum_at_least (inf true) F h k = unfold lt in absurd (false≢true h)
sum_at_least (inf false) F h k = unfold lt in absurd (false≢true k)
sum_at_least (fin false n d) F h k = at_least (1 * down d + n * up d * 1) (1 * down d) (mul-pos (zero-lt-suc 0) (down_pos d)) (much (1 * down d) (n * up d * 1))
  where
    much : (a b : ℕ) → a ≤ (a + b) * 9007199254740992
    much a b = omega arith
sum_at_least (fin true n d) F h k = go (ltb (1 * down d) (n * up d * 1)) h
  where
    C : 0 < 1 * down d
    C = mul-pos (zero-lt-suc 0) (down_pos d)

    go : (t : Bool)
        → lt Constants.zero (cond t (round binary64 true (n * up d * 1 - 1 * down d) (1 * down d)) (round binary64 false (1 * down d - n * up d * 1) (1 * down d))) ≡ true
        → T (le smallest (cond t (round binary64 true (n * up d * 1 - 1 * down d) (1 * down d)) (round binary64 false (1 * down d - n * up d * 1) (1 * down d))))
    go true h =
        absurd
        (negative_not_above (round binary64 true (n * up d * 1 - 1 * down d) (1 * down d)) (round_signed binary64 true (n * up d * 1 - 1 * down d) (1 * down d)) h)
    go false h = elim (eq-zero-or-pos (1 * down d - n * up d * 1)) [
      | inl z ↦ absurd (zero_not_above (rw (z, round_zero binary64 false (1 * down d) C) at h))
      | inr p ↦ at_least (1 * down d - n * up d * 1) (1 * down d) C (gap n d F p)
    ]

-- ---- the theorem

parts_at : (w : Float) → T (fits binary64 w) → lt Constants.zero w ≡ true → lt w (inf false) ≡ true → T (le smallest w)
    → (field_significand w ≡ significand w) × (field_exponent w ≡ exponent w)
unfolding lt
parts_at nan F h k l = absurd (false≢true h)
parts_at (inf true) F h k l = absurd (false≢true h)
parts_at (inf false) F h k l = absurd (false≢true k)
parts_at (fin true m e) F h k l = absurd (false≢true h)
parts_at (fin false zero e) F h k l = absurd (none (0 * up e) (down e) (zero-mul (up e)) (ltb-true (0 * down e) (0 * up e * 1) h))
  where
    none : (a d : ℕ) → a ≡ 0 → 0 * d < a * 1 → ⊥
    none a d e h = omega arith
parts_at (fin false (suc m) e) F h k l =
    parts_of_normal m e F (unfold le eq in enough (suc m * up e) (down e) (le_says (1 * down e) (suc m * up e * 2 ^ 53) l))
  where
    enough : (a d : ℕ) → 1 * d ≤ a * 2 ^ 53 → 2 ^ 52 * d ≤ a * 2 ^ 1074
    enough a d h =
        le_trans (mul-le-mul_left (2 ^ 52) (le_trans (le_of_eq (sym (one-mul d))) h))
        (le_trans (le_of_eq (mul_left_comm (2 ^ 52) a (2 ^ 53))) (mul-le-mul_left a (pow_mono (lit≤ {m = 105} {n = 1074} tt))))

pub parts_by_fields : (a : Float) → T (fits binary64 a) → lt Constants.zero (add binary64 one a) ≡ true → lt (add binary64 one a) (inf false) ≡ true
    → (field_significand (add binary64 one a) ≡ significand (add binary64 one a)) × (field_exponent (add binary64 one a) ≡ exponent (add binary64 one a))
parts_by_fields a F h k = parts_at (add binary64 one a) (add-fits binary64 one a) h k (sum_at_least a F h k)
