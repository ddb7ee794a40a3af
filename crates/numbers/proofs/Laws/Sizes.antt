-- Sizes by powers of two, whatever the sign: |x| ≤ 2^k through rounding, sums, products and quotients, in either format. The exact result is bounded
-- by arithmetic, and rounding keeps the bound (`round_within`), since 2^k is itself a value of the format.
use Rattle.std.proofs.Common.{◌≡◌, ℕ, zero, suc, ◌+◌, ◌-◌, ◌*◌, ◌^◌, ◌<◌, ◌≤◌, Bool, true, false, cond, ◌&&◌, T, ltb, sym, ap, ◌∙◌, subst, true≢false, le_trans, le_of_eq, mul-le-mul_right, zero-lt-suc, mul_assoc, mul_comm, mul-le-mul_left, mul-pos, one-mul, pow-suc, zero-mul, mul-one, mul_right_comm, arith, pow_pos, pow-add}
use mathlib.Core.Bool.{beq}
use lib.Dec.{eqb-suc-zero}
use lib.Pow.{pow-lt}
use lib.Ieee.{Float, nan, inf, fin, Format, prec, emax, low, up, down, odd, units, round, neg, sum, add, sub, mul, div, unlike}
use lib.Ieee.Fits.{up_pos, down_pos, two, two-le_pos, round_is}
use lib.Ieee.Exact.{HasValue, round_exact}
use lib.Ieee.Order.{kept, drop, round_mono}
use lib.Ieee.Scale.{finite}
use Rattle.numbers.proofs.Laws.Floats.{Signed, round_signed}
use Rattle.numbers.proofs.Laws.Bounds.{Upto, upto_of_le, cross}

-- A number of at most 2^k, and one of at least 2^k.
abbrev pub Within : ℕ → Float → Type 0
Within k nan = ⊥
Within k (inf s) = ⊥
Within k (fin s m e) = m * up e ≤ 2 ^ k * down e

abbrev pub Beyond : ℕ → Float → Type 0
Beyond k nan = ⊥
Beyond k (inf s) = ⊥
Beyond k (fin s m e) = 2 ^ k * down e ≤ m * up e

pub within_finite : (k : ℕ) (x : Float) → Within k x → T (finite x)
within_finite k nan h = h
within_finite k (inf s) h = h
within_finite k (fin s m e) h = tt

pub within_of_upto : (k : ℕ) (x : Float) → Signed false x → Upto (2 ^ k) x → Within k x
within_of_upto k nan s h = absurd s
within_of_upto k (inf t) s h = absurd h
within_of_upto k (fin true m e) s h = absurd (true≢false s)
within_of_upto k (fin false m e) s h = h

pub beyond_of_value : (k : ℕ) (x : Float) (s : Bool) (n : ℕ) → HasValue x s n 1 → 2 ^ k ≤ n → Beyond k x
beyond_of_value k nan s n v h = absurd v
beyond_of_value k (inf t) s n v h = absurd v
beyond_of_value k (fin t m e) s n v h = le_trans (mul-le-mul_right (down e) h) (le_of_eq (sym v.1 ∙ mul-one (m * up e)))

-- ---- rounding

power_kept : (f : Format) (k : ℕ) → k ≤ emax f → HasValue (round f false (2 ^ k) 1) false (2 ^ k) 1
power_kept f k h =
    round_exact f false (2 ^ k) 1 1 (k + low f) (zero-lt-suc 0) (pow-lt (two-le_pos (prec f) (two f)))
    (subst (λ (x : ℕ). x < 2 ^ (low f + suc (emax f))) (sym (one-mul (2 ^ (k + low f)))) (pow-lt (less k (low f) (emax f) h)))
    (sym (mul-one (1 * 2 ^ (k + low f)) ∙ one-mul (2 ^ (k + low f)) ∙ pow-add 2 k (low f)))
  where
    less : (k l e : ℕ) → k ≤ e → k + l < l + suc e
    less k l e h = omega arith

-- The sign has no part in the size.
units_within : (f : Format) (s : Bool) (q j k : ℕ) → Within k (units f false q j) → Within k (units f s q j)
unfolding units odd
units_within f s zero j k = go (ltb (0 * 2 ^ j) (2 ^ (low f + suc (emax f))))
  where
    go : (b : Bool) → Within k (cond b (odd (suc (prec f)) false 0 j (low f)) (inf false))
        → Within k (cond b (odd (suc (prec f)) s 0 j (low f)) (inf s))
    go true h = h
    go false h = h
units_within f s (suc q) j k = go (ltb (suc q * 2 ^ j) (2 ^ (low f + suc (emax f))))
  where
    go : (b : Bool) → Within k (cond b (odd (suc (prec f)) false (suc q) j (low f)) (inf false))
        → Within k (cond b (odd (suc (prec f)) s (suc q) j (low f)) (inf s))
    go true h = h
    go false h = h

pub round_within : (f : Format) (s : Bool) (a c k : ℕ) → 0 < c → k ≤ emax f → a ≤ 2 ^ k * c → Within k (round f s a c)
round_within f s a c k C K h =
    let positive : Within k (round f false a c) =
    within_of_upto k (round f false a c) (round_signed f false a c)
    (upto_of_le (round f false a c) (round f false (2 ^ k) 1) (2 ^ k) (round_signed f false a c)
    (round_mono f a c (2 ^ k) 1 C (zero-lt-suc 0) (le_trans (le_of_eq (mul-one a)) h)) (power_kept f k K)) in
    subst (λ (x : Float). Within k x) (sym (round_is f s a c))
    (units_within f s (kept (prec f) (a * 2 ^ low f) c) (drop (prec f) (a * 2 ^ low f) c) k
    (subst (λ (x : Float). Within k x) (round_is f false a c) positive))

-- ---- the operations

pub neg_within : (x : Float) (k : ℕ) → Within k x → Within k (neg x)
unfolding neg
neg_within nan k h = h
neg_within (inf s) k h = h
neg_within (fin s m e) k h = h

sum_within : (f : Format) (s : Bool) (a : ℕ) (t : Bool) (b c k : ℕ) → 0 < c → suc k ≤ emax f → a ≤ 2 ^ k * c → b ≤ 2 ^ k * c
    → Within (suc k) (sum f s a t b c)
unfolding sum
sum_within f s a t b c k C K h g = go (beq s t) (ltb a b)
  where
    twice : 2 ^ suc k * c ≡ 2 ^ k * c * 2
    twice = ap (λ (x : ℕ). x * c) (pow-suc 2 k) ∙ mul_right_comm (2 ^ k) 2 c

    both : (a b X Y : ℕ) → a ≤ X → b ≤ X → Y ≡ X * 2 → a + b ≤ Y
    both a b X Y p q e = omega arith

    less : (a b X Y : ℕ) → a ≤ X → Y ≡ X * 2 → a - b ≤ Y
    less a b X Y p e = omega arith

    go : (u v : Bool) → Within (suc k) (cond u (round f s (a + b) c) (cond v (round f t (b - a) c) (round f (s && ltb b a) (a - b) c)))
    go true v = round_within f s (a + b) c (suc k) C K (both a b (2 ^ k * c) (2 ^ suc k * c) h g twice)
    go false true = round_within f t (b - a) c (suc k) C K (less b a (2 ^ k * c) (2 ^ suc k * c) g twice)
    go false false = round_within f (s && ltb b a) (a - b) c (suc k) C K (less a b (2 ^ k * c) (2 ^ suc k * c) h twice)

pub add-within : (f : Format) (x y : Float) (k : ℕ) → suc k ≤ emax f → Within k x → Within k y → Within (suc k) (add f x y)
unfolding add
add-within f nan y k K h g = h
add-within f (inf s) y k K h g = absurd h
add-within f (fin s m e) nan k K h g = g
add-within f (fin s m e) (inf t) k K h g = g
add-within f (fin s m e) (fin t n d) k K h g =
    sum_within f s (m * up e * down d) t (n * up d * down e) (down e * down d) k (mul-pos (down_pos e) (down_pos d)) K
    (le_trans (mul-le-mul_right (down d) h) (le_of_eq (mul_assoc (2 ^ k) (down e) (down d))))
    (le_trans (mul-le-mul_right (down e) g) (le_of_eq (mul_assoc (2 ^ k) (down d) (down e) ∙ ap (λ (x : ℕ). 2 ^ k * x) (mul_comm (down d) (down e)))))

pub sub_within : (f : Format) (x y : Float) (k : ℕ) → suc k ≤ emax f → Within k x → Within k y → Within (suc k) (sub f x y)
unfolding sub
sub_within f x y k K h g = add-within f x (neg y) k K h (neg_within y k g)

pub mul-within : (f : Format) (x y : Float) (j k : ℕ) → j + k ≤ emax f → Within j x → Within k y → Within (j + k) (mul f x y)
unfolding mul
mul-within f nan y j k K h g = h
mul-within f (inf s) y j k K h g = absurd h
mul-within f (fin s m e) nan j k K h g = g
mul-within f (fin s m e) (inf t) j k K h g = absurd g
mul-within f (fin s m e) (fin t n d) j k K h g =
    round_within f (unlike s t) (m * up e * (n * up d)) (down e * down d) (j + k) (mul-pos (down_pos e) (down_pos d)) K
    (le_trans (cross (m * up e) (2 ^ j) (down e) (n * up d) (2 ^ k) (down d) h g)
    (le_of_eq (ap (λ (x : ℕ). x * (down e * down d)) (sym (pow-add 2 j k)))))

pub div_within : (f : Format) (x y : Float) (j k : ℕ) → j ≤ emax f → Within (j + k) x → Beyond k y → Within j (div f x y)
unfolding div
div_within f nan y j k K h g = h
div_within f (inf s) y j k K h g = absurd h
div_within f (fin s m e) nan j k K h g = g
div_within f (fin s m e) (inf t) j k K h g = absurd g
div_within f (fin s m e) (fin t zero d) j k K h g = absurd (none (2 ^ k * down d) (0 * up d) (mul-pos (pow_pos k) (down_pos d)) (zero-mul (up d)) g)
  where
    none : (a b : ℕ) → 0 < a → b ≡ 0 → a ≤ b → ⊥
    none a b x y z = omega arith
div_within f (fin s m e) (fin t (suc n) d) j k K h g =
    rw (eqb-suc-zero n)
    (round_within f (unlike s t) (m * up e * down d) (suc n * up d * down e) j (mul-pos (mul-pos (zero-lt-suc n) (up_pos d)) (down_pos e)) K
    (share (m * up e) (down e) (down d) (suc n * up d) h g))
  where
    share : (a c b N : ℕ) → a ≤ 2 ^ (j + k) * c → 2 ^ k * b ≤ N → a * b ≤ 2 ^ j * (N * c)
    share a c b N h g =
        le_trans (mul-le-mul_right b h)
        (le_trans
        (le_of_eq (mul_right_comm (2 ^ (j + k)) c b ∙ ap (λ (x : ℕ). x * b * c) (pow-add 2 j k) ∙ ap (λ (x : ℕ). x * c) (mul_assoc (2 ^ j) (2 ^ k) b)))
        (le_trans (mul-le-mul_right c (mul-le-mul_left (2 ^ j) g)) (le_of_eq (mul_assoc (2 ^ j) N c))))
