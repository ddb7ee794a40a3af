-- The values of document 01's bench table that concern counts of samples, and a count at the limit, by computation.
use mathlib.Core.Path.{◌≡◌, refl}
use mathlib.Core.Bool.{false}
use lib.IntN.{pos, negsuc}
use lib.Ieee.{nan, fin, mul, div, lt, is_nan, round, of_bits}
use Rattle.numbers.specs.Limits.{max, clamp}
use Rattle.numbers.specs.Conversions.{round_u64}
use Rattle.timing.specs.declared.TimeUnit.TheVariants.{Milliseconds, Tempo}
use Rattle.timing.specs.Clock.{new, with_tempo, with_scale}
use Rattle.timing.specs.Samples.{seconds, product, samples}

-- At scale 1, 500 ms at rate 1 is 1 sample, and one beat at tempo 0.5 and rate 48,000 is 2,880,000; a NaN scale gives 0.
pub table : (samples (new (fin false 1 (pos 0))) (fin false 125 (pos 2)) Milliseconds ≡ 1)
    × (samples (with_tempo (new (fin false 375 (pos 7))) (fin false 1 (negsuc 0))) (fin false 1 (pos 0)) Tempo ≡ 2880000)
    × (samples (with_scale (new (fin false 375 (pos 7))) nan) (fin false 125 (pos 2)) Milliseconds ≡ 0)
unfolding samples product seconds max clamp is_nan lt mul div round round_u64 of_bits
table = (refl, refl, refl)

-- The bound of `samples_le` is reached.
pub largest : samples (with_scale (with_tempo (new (fin false 1 (pos 20))) (fin false 1 (pos 0))) (fin false 5 (pos 1))) (fin false 1 (pos 20)) Tempo ≡ 659706976665600
unfolding samples product seconds max clamp is_nan lt mul div round round_u64 of_bits
largest = refl
