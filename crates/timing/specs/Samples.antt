-- `Timing::samples` and the limits that document 01 adds. All binary64, each operation rounded once.
use Rattle.std.specs.Prelude.{ℕ, Bool, false, pos, Float}
use Rattle.std.specs.Float.{fin, binary64}
use Rattle.std.specs.Float.Ieee.{lt, of_bits}
use Rattle.numbers.specs.Rounded.{◌⊗◌, ◌⊘◌}
use Rattle.numbers.specs.Constants.{zero, one}
use Rattle.numbers.specs.Limits.{max, clamp}
use Rattle.numbers.specs.Conversions.{round_u64}
use Rattle.timing.specs.declared.Timing.{Timing}
use Rattle.timing.specs.declared.TimeUnit.{TimeUnit}
use Rattle.timing.specs.declared.TimeUnit.TheVariants.{Milliseconds, Tempo}

abbrev pub sixty : Float
sixty = fin false 15 (pos 2)

abbrev pub thousand : Float
thousand = fin false 125 (pos 3)

-- MIN_TIME_SCALE, the binary64 nearest to 0.1, and MAX_TIME_SCALE.
abbrev pub min_scale : Float
min_scale = of_bits binary64 0x3fb9_9999_9999_999a

abbrev pub max_scale : Float
max_scale = fin false 5 (pos 1)

-- Milliseconds / 1000, or beats × 60 / max(tempo, 1).
unfoldable pub seconds : Float → TimeUnit → Float → Float
seconds value Milliseconds tempo = value ⊘ thousand
seconds value Tempo tempo = (value ⊗ sixty) ⊘ max tempo one

-- Seconds, max with 0; times the scale limited to 0.1..10, times max(rate, 0).
unfoldable pub product : Timing → Float → TimeUnit → Float
product t value unit = max (seconds value unit t.tempo) zero ⊗ clamp t.scale min_scale max_scale ⊗ max t.sample_rate zero

-- Rounded to whole samples; a NaN product gives 0.
unfoldable pub samples : Timing → Float → TimeUnit → ℕ
samples t value unit = round_u64 (product t value unit)

-- Document 01's limit on a time and on a sample rate, 1,048,576. NaN is over nothing.
abbrev pub over : Float → Bool
over x = lt (fin false 1 (pos 20)) x
