-- Powers of two and the number of binary digits: n has z + 1 digits if it is from 2^z to below 2^(z + 1) (`size_is`), so that a factor of 2^j adds j
-- digits (`size_shift`).
use Rattle.std.proofs.Common.{◌≡◌, ℕ, suc, ◌+◌, ◌-◌, ◌*◌, ◌^◌, ◌<◌, ◌≤◌, sym, ap, ◌∙◌, le_trans, le_of_eq, lt_of_lt_of_le, le_of_suc-le-suc, lt_irrefl, mul-le-mul_right, lt_of_not-le, not-le_of_lt, arith, pow_mono, pow-add, shl_lt}
use lib.Pow.{pow-lt}
use lib.Ieee.{size}
use lib.Ieee.Digits.{size-lt, size-le, size_reaches}

pub two_pow : (a b c : ℕ) → a + b ≡ c → 2 ^ a * 2 ^ b ≡ 2 ^ c
two_pow a b c h = sym (pow-add 2 a b) ∙ ap (λ (x : ℕ). 2 ^ x) h

pub pow_le_back : (a b : ℕ) → 2 ^ a ≤ 2 ^ b → a ≤ b
pow_le_back a b h = le_of_suc-le-suc (lt_of_not-le (λ (g : suc b ≤ a). lt_irrefl (2 ^ b) (lt_of_lt_of_le (pow-lt g) h)))

pub size_is : (n z : ℕ) → 2 ^ z ≤ n → n < 2 ^ (z + 1) → size n ≡ z + 1
size_is n z lo hi = both (size n) z (size-le n (z + 1) hi) (lt_of_not-le (λ (g : size n ≤ z). not-le_of_lt (lt_of_lt_of_le (size-lt n) (pow_mono g)) lo))
  where
    both : (x y : ℕ) → x ≤ y + 1 → y < x → x ≡ y + 1
    both x y a b = omega arith

pub size-pos : (m : ℕ) → 0 < m → 0 < size m
size-pos m h = lt_of_not-le (λ (g : size m ≤ 0). clash m (2 ^ size m) (size-lt m) (pow_mono g) h)
  where
    clash : (m p : ℕ) → m < p → p ≤ 1 → 0 < m → ⊥
    clash m p a b c = omega arith

pub size_shift : (m j : ℕ) → 0 < m → size (m * 2 ^ j) ≡ size m + j
size_shift m j h =
    let z = size m in
    let Z = size-pos m h in
    size_is (m * 2 ^ j) (z - 1 + j)
    (le_trans (le_of_eq (pow-add 2 (z - 1) j)) (mul-le-mul_right (2 ^ j) (size_reaches m (z - 1) (less z Z))))
    (lt_of_lt_of_le (shl_lt z j (size-lt m)) (pow_mono (le_of_eq (same z j Z))))
    ∙ sym (same z j Z)
  where
    less : (z : ℕ) → 0 < z → z - 1 < z
    less z h = omega arith

    same : (z j : ℕ) → 0 < z → z + j ≡ z - 1 + j + 1
    same z j h = omega arith
