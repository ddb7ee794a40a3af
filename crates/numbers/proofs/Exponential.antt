-- The two loops of `exp_m1`, an iteration at a time: suc m steps of the definition are one and then m (`series_step`, `doublings_step`), and no steps
-- leave the value as it is (`series_done`, `doublings_done`). Each is a clause of the definition.
use Rattle.std.proofs.Common.{◌≡◌, ℕ, suc, refl}
use lib.Ieee.{Float, binary64, of_bits}
use Rattle.numbers.specs.Rounded.{◌⊕◌, ◌⊗◌, ◌⊘◌}
use Rattle.numbers.specs.StandIns.{whole, exp_series, doublings, exp_m1}
use Rattle.numbers.proofs.Laws.Literals.{one', two'}

-- w = z / 64, with the divisor as the code writes it.
abbrev pub reduced : Float → Float
reduced z = z ⊘ of_bits binary64 0x4050_0000_0000_0000

pub exp-start : (z : Float) → doublings 6 (reduced z ⊗ exp_series 11 (reduced z) one') ≡ exp_m1 z
unfolding exp_m1 of_bits
exp-start z = refl

pub series_step : (m n j : ℕ) (w t : Float) → n ≡ suc m → j ≡ suc (suc m) → exp_series n w t ≡ exp_series m w (one' ⊕ (w ⊗ t) ⊘ whole j)
unfolding exp_series of_bits
series_step m n j w t p q = rw (p, q) refl

pub series_done : (n : ℕ) (w t : Float) → n ≡ 0 → t ≡ exp_series n w t
unfolding exp_series
series_done n w t h = rw h refl

pub doublings_step : (m n : ℕ) (y : Float) → n ≡ suc m → doublings n y ≡ doublings m (y ⊗ (y ⊕ two'))
unfolding doublings of_bits
doublings_step m n y h = rw h refl

pub doublings_done : (n : ℕ) (y : Float) → n ≡ 0 → y ≡ doublings n y
unfolding doublings
doublings_done n y h = rw h refl
