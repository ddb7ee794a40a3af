-- E(z) is a number where |z| ≤ 64: the series stays within 2, and each doubling takes 2^k to at most 2^(2 k + 1), so six take 2 to at most 2^127. By
-- induction on the series' terms, and on the doublings.
use Rattle.std.proofs.Common.{◌≡◌, ℕ, zero, suc, ◌+◌, ◌*◌, ◌^◌, ◌≤◌, false, T, sym, ap, ◌∙◌, le_trans, le_of_eq, mul-le-mul_right, mul_assoc, one-mul, pow-suc, mul-one, arith, lit≤, pow_pos, pow_mono}
use lib.Ieee.{Float, binary64, of_int}
use lib.Ieee.Back.{round_whole}
use lib.Ieee.Scale.{finite}
use Rattle.numbers.specs.Rounded.{◌⊕◌, ◌⊗◌, ◌⊘◌}
use Rattle.numbers.specs.Constants.{one, two, sixty_four}
use Rattle.numbers.specs.StandIns.{whole, exp_series, doublings, exp_m1}
use Rattle.numbers.proofs.Laws.Sizes.{Within, Beyond, within_finite, beyond_of_value, add-within, mul-within, div_within}

two_or_more : (n : ℕ) → n ≤ 10 → Beyond 1 (whole (suc (suc n)))
unfolding of_int
two_or_more n h = beyond_of_value 1 (whole (suc (suc n))) false (suc (suc n)) (round_whole binary64 false (suc (suc n)) (small n h)) (least n)
  where
    small : (n : ℕ) → n ≤ 10 → suc (suc n) ≤ 9007199254740992
    small n h = omega arith

    least : (n : ℕ) → 2 ≤ suc (suc n)
    least n = omega arith

series_within : (n : ℕ) (w t : Float) → n ≤ 11 → Within 0 w → Within 1 t → Within 1 (exp_series n w t)
unfolding exp_series
series_within zero w t h W k = k
series_within (suc n) w t h W k =
    let ten : n ≤ 10 = omega arith in
    let eleven : n ≤ 11 = omega arith in
    series_within n w (one ⊕ (w ⊗ t) ⊘ whole (suc (suc n))) eleven W
    (add-within binary64 one ((w ⊗ t) ⊘ whole (suc (suc n))) 0 (lit≤ tt) (lit≤ tt)
    (div_within binary64 (w ⊗ t) (whole (suc (suc n))) 0 1 (lit≤ tt) (mul-within binary64 w t 0 1 (lit≤ tt) W k) (two_or_more n ten)))

doublings_finite : (n k : ℕ) (y : Float) → 1 ≤ k → 2 ^ n * suc k ≤ 1024 → Within k y → T (finite (doublings n y))
unfolding doublings
doublings_finite zero k y K h W = within_finite k y W
doublings_finite (suc n) k y K h W =
    let next : 2 ^ n * suc (k + suc k) ≤ 1024 = le_trans (le_of_eq (twice (2 ^ n) (2 ^ suc n) (pow-suc 2 n))) h in
    let room : suc (k + suc k) ≤ 1024 =
    le_trans (le_of_eq (sym (one-mul (suc (k + suc k))))) (le_trans (mul-le-mul_right (suc (k + suc k)) (pow_pos n)) next) in
    let more : 1 ≤ k + suc k = omega arith in
    let top : k + suc k ≤ 1023 = omega arith in
    let mid : suc k ≤ 1023 = omega arith in
    doublings_finite n (k + suc k) (y ⊗ (y ⊕ two)) more next
    (mul-within binary64 y (y ⊕ two) k (suc k) top W (add-within binary64 y two k mid W (le_trans (pow_mono K) (le_of_eq (sym (mul-one (2 ^ k)))))))
  where
    even : (k : ℕ) → suc (k + suc k) ≡ 2 * suc k
    even k = omega arith

    twice : (p q : ℕ) → q ≡ p * 2 → p * suc (k + suc k) ≡ q * suc k
    twice p q h = ap (λ (x : ℕ). p * x) (even k) ∙ sym (mul_assoc p 2 (suc k)) ∙ ap (λ (x : ℕ). x * suc k) (sym h)

pub exp_finite : (z : Float) → Within 6 z → T (finite (exp_m1 z))
unfolding exp_m1
exp_finite z h =
    let w = z ⊘ sixty_four in
    let W : Within 0 w = div_within binary64 z sixty_four 0 6 (lit≤ tt) h (lit≤ tt) in
    doublings_finite 6 1 (w ⊗ exp_series 11 w one) (lit≤ tt) (lit≤ tt)
    (mul-within binary64 w (exp_series 11 w one) 0 1 (lit≤ tt) W (series_within 11 w one (lit≤ tt) W (lit≤ tt)))
