-- The loop of `powi`, an iteration at a time: the bits left are one bit and then the rest (`pow_step`), and with none left the product is the answer
-- (`pow_done`). The place of the highest one bit is one less than the number of digits (`highest`).
use Rattle.std.proofs.Common.{◌≡◌, ℕ, suc, ◌+◌, ◌-◌, ◌*◌, ◌/◌, ◌%◌, ◌^◌, ◌<◌, ◌≤◌, Bool, cond, eqb, sym, refl, le_trans, le_of_eq, lt_of_not-le, arith, pow_mono}
use native.Mathlib.Nat.{pow-succ'}
use lib.Count.{count_leading_zeros, leading_length}
use lib.Ieee.{Float, size}
use lib.Ieee.Digits.{size-lt, size-le}
use Rattle.numbers.specs.Rounded.{◌⊗◌}
use Rattle.numbers.specs.StandIns.{pow_bits}

-- The place of the highest one bit is one less than the number of digits.
pub highest : (len : ℕ) → len < 2 ^ 32 → size len - 1 ≡ 31 - count_leading_zeros 32 len
highest len h =
    let w = leading_length 32 len h in
    go (size len) (count_leading_zeros 32 len) w.0 w.1 (size-le len w.0 w.2)
    (lt_of_not-le (λ (g : suc (size len) ≤ w.0). clash len (2 ^ size len) (2 ^ w.0) (size-lt len) (le_trans (le_of_eq (sym (pow-succ' 2 (size len)))) (pow_mono g)) w.3))
  where
    go : (z l m : ℕ) → l + m ≡ 32 → z ≤ m → m < suc z → z - 1 ≡ 31 - l
    go z l m a b c = omega arith

    clash : (n a b : ℕ) → n < a → 2 * a ≤ b → b ≤ 2 * n + 1 → ⊥
    clash n a b h k l = omega arith

-- `bit` says whether bit m of len is one.
pub pow_step : (m n : ℕ) (r : Float) (len : ℕ) (p : Float) (bit : Bool) → n ≡ suc m → eqb (len / 2 ^ m % 2) 1 ≡ bit
    → pow_bits m r len (cond bit ((p ⊗ p) ⊗ r) (p ⊗ p)) ≡ pow_bits n r len p
unfolding pow_bits
pow_step m n r len p bit h t = rw (h, sym t) refl

pub pow_done : (n : ℕ) (r : Float) (len : ℕ) (p : Float) → n ≡ 0 → p ≡ pow_bits n r len p
unfolding pow_bits
pow_done n r len p h = rw h refl
