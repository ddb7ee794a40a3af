-- The timing and the unit that C passes as plain numbers.
use Rattle.std.specs.Prelude.{Bool, true, false, Float}
use Rattle.timing.specs.declared.Timing.{Timing}
use Rattle.timing.specs.declared.TimeUnit.{TimeUnit}
use Rattle.timing.specs.declared.TimeUnit.TheVariants.{Milliseconds, Tempo}

abbrev pub timing : Float → Float → Float → Timing
timing rate tempo scale = record { sample_rate = rate; tempo = tempo; scale = scale }

unfoldable pub unit : Bool → TimeUnit
unit true = Tempo
unit false = Milliseconds
