-- Bounds on binary64 results: what stays at most B, or from 0 to B, through rounding, product, quotient and `max`. By cases on the operands; rounding
-- keeps the order, and a whole number up to 2^53 is itself when it is rounded.
use Rattle.std.proofs.Common.{◌≡◌, ℕ, zero, suc, ◌+◌, ◌*◌, ◌^◌, ◌<◌, ◌≤◌, Bool, true, false, cond, not, T, ltb, ℤ, pos, sym, refl, ap, ◌∙◌, subst, true≢false, zero-le, le_trans, le_of_eq, lt_irrefl, mul-le-mul_right, zero-lt-suc, mul_assoc, mul_comm, mul-le-mul_left, mul-pos, mul-zero, zero-mul, mul-one, mul_right_comm, le_of_mul-le-mul_right, arith, lit≤, nltb→le, ltb-false}
use mathlib.Core.Bool.{false≢true}
use native.Mathlib.Nat.{mul-mul-mul_comm}
use lib.Dec.{eqb-suc-zero}
use lib.Ieee.{Float, nan, inf, fin, binary64, up, down, round, mul, div, lt, eq, le, is_nan, unlike}
use lib.Ieee.Fits.{up_pos, down_pos}
use lib.Ieee.Exact.{HasValue}
use lib.Ieee.Order.{round_mono}
use lib.Ieee.Back.{round_whole}
use Rattle.numbers.specs.Constants as Constants
use Rattle.numbers.specs.Constants.{one}
use Rattle.numbers.specs.Limits.{max}
use Rattle.numbers.proofs.Laws.Zero.{round_zero}
use Rattle.numbers.proofs.Laws.Floats.{Signed, round_signed, le_says}

-- At most B, or no number.
abbrev pub Below : ℕ → Float → Type 0
Below B nan = Unit
Below B (inf true) = Unit
Below B (inf false) = ⊥
Below B (fin true m e) = Unit
Below B (fin false m e) = m * up e ≤ B * down e

-- From 0 to B, -0 among them, or no number.
abbrev pub Upto : ℕ → Float → Type 0
Upto B nan = Unit
Upto B (inf s) = ⊥
Upto B (fin true m e) = m ≡ 0
Upto B (fin false m e) = m * up e ≤ B * down e

-- 1 or more.
abbrev pub AtLeast1 : Float → Type 0
AtLeast1 nan = ⊥
AtLeast1 (inf s) = s ≡ false
AtLeast1 (fin s m e) = (s ≡ false) × (down e ≤ m * up e)

pub below_more : (A B : ℕ) (x : Float) → A ≤ B → Below A x → Below B x
below_more A B nan h k = tt
below_more A B (inf true) h k = tt
below_more A B (inf false) h k = k
below_more A B (fin true m e) h k = tt
below_more A B (fin false m e) h k = le_trans k (mul-le-mul_right (down e) h)

-- ---- rounding

pub upto_of_le : (x y : Float) (B : ℕ) → Signed false x → T (le x y) → HasValue y false B 1 → Upto B x
unfolding le lt eq
upto_of_le nan y B s h v = tt
upto_of_le (inf true) y B s h v = absurd (true≢false s)
upto_of_le (fin true m e) y B s h v = absurd (true≢false s)
upto_of_le (inf false) nan B s h v = absurd v
upto_of_le (inf false) (inf t) B s h v = absurd v
upto_of_le (fin false m e) nan B s h v = absurd v
upto_of_le (fin false m e) (inf t) B s h v = absurd v
upto_of_le (inf false) (fin t n d) B s h v = absurd h
upto_of_le (fin false m e) (fin true n d) B s h v = absurd (true≢false v.0)
upto_of_le (fin false m e) (fin false n d) B s h v =
    le_of_mul-le-mul_right
    (le_trans (le_says (m * up e * down d) (n * up d * down e) h)
    (le_of_eq (ap (λ (x : ℕ). x * down e) (sym (mul-one (n * up d)) ∙ v.1) ∙ mul_right_comm B (down d) (down e)))) (down_pos d)

round_upto : (a c B : ℕ) → 0 < c → B ≤ 2 ^ 53 → a ≤ B * c → Upto B (round binary64 false a c)
round_upto a c B C K h =
    upto_of_le (round binary64 false a c) (round binary64 false B 1) B (round_signed binary64 false a c)
    (round_mono binary64 a c B 1 C (zero-lt-suc 0) (le_trans (le_of_eq (mul-one a)) h)) (round_whole binary64 false B K)

below_negative : (x : Float) (B : ℕ) → Signed true x → Below B x
below_negative nan B s = tt
below_negative (inf true) B s = tt
below_negative (inf false) B s = absurd (false≢true s)
below_negative (fin true m e) B s = tt
below_negative (fin false m e) B s = absurd (false≢true s)

round_below : (s : Bool) (a c B : ℕ) → 0 < c → B ≤ 2 ^ 53 → a ≤ B * c → Below B (round binary64 s a c)
round_below true a c B C K h = below_negative (round binary64 true a c) B (round_signed binary64 true a c)
round_below false a c B C K h = go (round binary64 false a c) (round_upto a c B C K h)
  where
    go : (x : Float) → Upto B x → Below B x
    go nan s = tt
    go (inf t) s = absurd s
    go (fin true m e) s = tt
    go (fin false m e) s = s

no_size : (m : ℕ) (e : ℤ) → m * up e ≡ 0 → m ≡ 0
no_size zero e h = refl
no_size (suc m) e h = absurd (lt_irrefl 0 (subst (λ (x : ℕ). 0 < x) h (mul-pos (zero-lt-suc m) (up_pos e))))

round_of_zero : (s : Bool) (a c B : ℕ) → 0 < c → a ≡ 0 → Upto B (round binary64 s a c)
round_of_zero s a c B C z = rw (z, round_zero binary64 s c C) (kept s)
  where
    kept : (s : Bool) → Upto B (fin s 0 (pos 0))
    kept true = refl
    kept false = zero-le

-- ---- products and quotients

pub cross : (a A c b B d : ℕ) → a ≤ A * c → b ≤ B * d → a * b ≤ A * B * (c * d)
cross a A c b B d h k = le_trans (mul-le-mul_right b h) (le_trans (mul-le-mul_left (A * c) k) (le_of_eq (mul-mul-mul_comm A c B d)))

-- A number times one from 0 to B that is above 0.
pub mul-below : (x : Float) (n : ℕ) (d : ℤ) (A B : ℕ) → A * B ≤ 2 ^ 53 → Below A x → suc n * up d ≤ B * down d → Below (A * B) (mul binary64 x (fin false (suc n) d))
unfolding mul
mul-below nan n d A B K h k = tt
mul-below (inf true) n d A B K h k = rw (eqb-suc-zero n) tt
mul-below (inf false) n d A B K h k = absurd h
mul-below (fin true m e) n d A B K h k =
    below_negative (round binary64 true (m * up e * (suc n * up d)) (down e * down d)) (A * B)
    (round_signed binary64 true (m * up e * (suc n * up d)) (down e * down d))
mul-below (fin false m e) n d A B K h k =
    round_below false (m * up e * (suc n * up d)) (down e * down d) (A * B) (mul-pos (down_pos e) (down_pos d)) K
    (cross (m * up e) A (down e) (suc n * up d) B (down d) h k)

pub mul_upto : (x y : Float) (A B : ℕ) → A * B ≤ 2 ^ 53 → Upto A x → Upto B y → Upto (A * B) (mul binary64 x y)
unfolding mul
mul_upto nan y A B K h k = tt
mul_upto (inf s) y A B K h k = absurd h
mul_upto (fin s m e) nan A B K h k = tt
mul_upto (fin s m e) (inf t) A B K h k = absurd k
mul_upto (fin false m e) (fin false n d) A B K h k =
    round_upto (m * up e * (n * up d)) (down e * down d) (A * B) (mul-pos (down_pos e) (down_pos d)) K
    (cross (m * up e) A (down e) (n * up d) B (down d) h k)
mul_upto (fin false m e) (fin true n d) A B K h k =
    round_of_zero true (m * up e * (n * up d)) (down e * down d) (A * B) (mul-pos (down_pos e) (down_pos d))
    (ap (λ (x : ℕ). m * up e * (x * up d)) k ∙ ap (λ (x : ℕ). m * up e * x) (zero-mul (up d)) ∙ mul-zero (m * up e))
mul_upto (fin true m e) (fin t n d) A B K h k =
    round_of_zero (unlike true t) (m * up e * (n * up d)) (down e * down d) (A * B) (mul-pos (down_pos e) (down_pos d))
    (ap (λ (x : ℕ). x * up e * (n * up d)) h ∙ ap (λ (x : ℕ). x * (n * up d)) (zero-mul (up e)) ∙ zero-mul (n * up d))

pub div_below : (x t : Float) (A : ℕ) → A ≤ 2 ^ 53 → Below A x → AtLeast1 t → Below A (div binary64 x t)
unfolding div
div_below nan t A K h g = tt
div_below (inf true) nan A K h g = absurd g
div_below (inf true) (inf u) A K h g = tt
div_below (inf true) (fin true n d) A K h g = absurd (true≢false g.0)
div_below (inf true) (fin false n d) A K h g = tt
div_below (inf false) t A K h g = absurd h
div_below (fin s m e) nan A K h g = absurd g
div_below (fin s m e) (inf true) A K h g = absurd (true≢false g)
div_below (fin true m e) (inf false) A K h g = tt
div_below (fin false m e) (inf false) A K h g = zero-le
div_below (fin s m e) (fin true n d) A K h g = absurd (true≢false g.0)
div_below (fin s m e) (fin false zero d) A K h g = absurd (none (down d) (0 * up d) (down_pos d) (zero-mul (up d)) g.1)
  where
    none : (a b : ℕ) → 0 < a → b ≡ 0 → a ≤ b → ⊥
    none a b x y z = omega arith
div_below (fin true m e) (fin false (suc n) d) A K h g =
    rw (eqb-suc-zero n)
    (below_negative (round binary64 true (m * up e * down d) (suc n * up d * down e)) A (round_signed binary64 true (m * up e * down d) (suc n * up d * down e)))
div_below (fin false m e) (fin false (suc n) d) A K h g =
    rw (eqb-suc-zero n)
    (round_below false (m * up e * down d) (suc n * up d * down e) A (mul-pos (mul-pos (zero-lt-suc n) (up_pos d)) (down_pos e)) K (share (m * up e) (down e) (down d) (suc n * up d) h g.1))
  where
    share : (a c b N : ℕ) → a ≤ A * c → b ≤ N → a * b ≤ A * (N * c)
    share a c b N h k = le_trans (mul-le-mul_right b h) (le_trans (mul-le-mul_left (A * c) k) (le_of_eq (mul_assoc A c N ∙ ap (λ (x : ℕ). A * x) (mul_comm c N))))

-- ---- `max` with 0 and with 1

pub max-zero : (x : Float) (B : ℕ) → Below B x → Upto B (max x Constants.zero)
unfolding max is_nan lt
max-zero nan B h = zero-le
max-zero (inf true) B h = zero-le
max-zero (inf false) B h = absurd h
max-zero (fin true m e) B h = go (ltb 0 (m * up e * 1 + 0 * down e)) (nltb→le 0 (m * up e * 1 + 0 * down e))
  where
    flat : (a b : ℕ) → a * 1 + b ≤ 0 → a ≡ 0
    flat a b h = omega arith

    go : (t : Bool) → (T (not t) → m * up e * 1 + 0 * down e ≤ 0) → Upto B (cond t Constants.zero (fin true m e))
    go true p = zero-le
    go false p = no_size m e (flat (m * up e) (0 * down e) (p tt))
max-zero (fin false m e) B h = go (ltb (m * up e * 1) (0 * down e))
  where
    go : (t : Bool) → Upto B (cond t Constants.zero (fin false m e))
    go true = zero-le
    go false = h

pub max-one : (x : Float) → AtLeast1 (max x one)
unfolding max is_nan lt
max-one nan = (refl, lit≤ tt)
max-one (inf true) = (refl, lit≤ tt)
max-one (inf false) = refl
max-one (fin true m e) = go (ltb 0 (m * up e * 1 + 1 * down e)) (nltb→le 0 (m * up e * 1 + 1 * down e))
  where
    some : (a b : ℕ) → 0 < b → a * 1 + 1 * b ≤ 0 → ⊥
    some a b h k = omega arith

    go : (t : Bool) → (T (not t) → m * up e * 1 + 1 * down e ≤ 0) → AtLeast1 (cond t one (fin true m e))
    go true p = (refl, lit≤ tt)
    go false p = absurd (some (m * up e) (down e) (down_pos e) (p tt))
max-one (fin false m e) = go (ltb (m * up e * 1) (1 * down e)) (nltb→le (m * up e * 1) (1 * down e))
  where
    tidy : (a b : ℕ) → 1 * b ≤ a * 1 → b ≤ a
    tidy a b h = omega arith

    go : (t : Bool) → (T (not t) → 1 * down e ≤ m * up e * 1) → AtLeast1 (cond t one (fin false m e))
    go true p = (refl, lit≤ tt)
    go false p = (refl, tidy (m * up e) (down e) (p tt))

-- ---- a number that is not over 2^k

pub not_over : (k : ℕ) (x : Float) → lt (fin false 1 (pos k)) x ≡ false → Below (2 ^ k) x
unfolding lt
not_over k nan h = tt
not_over k (inf true) h = tt
not_over k (inf false) h = absurd (true≢false h)
not_over k (fin true m e) h = tt
not_over k (fin false m e) h = tidy (m * up e) (down e) (2 ^ k) (ltb-false (1 * 2 ^ k * down e) (m * up e * 1) h)
  where
    tidy : (a b c : ℕ) → a * 1 ≤ 1 * c * b → a ≤ c * b
    tidy a b c h = le_trans (le_of_eq (sym (mul-one a))) (le_trans h (le_of_eq (ap (λ (x : ℕ). x * b) (one-times c))))
      where
        one-times : (c : ℕ) → 1 * c ≡ c
        one-times c = omega arith
