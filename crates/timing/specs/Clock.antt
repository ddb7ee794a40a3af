-- Timings: `Timing::new`, `with_tempo` and `with_scale` as mod.rs has them.
use Rattle.std.specs.Prelude.{false, pos, Float}
use Rattle.std.specs.Float.{fin}
use Rattle.timing.specs.declared.Timing.{Timing}

-- Two beats a second, and times as they are.
abbrev pub new : Float → Timing
new rate = record { sample_rate = rate; tempo = fin false 15 (pos 3); scale = fin false 1 (pos 0) }

abbrev pub with_tempo : Timing → Float → Timing
with_tempo t x = record { sample_rate = t.sample_rate; tempo = x; scale = t.scale }

abbrev pub with_scale : Timing → Float → Timing
with_scale t x = record { sample_rate = t.sample_rate; tempo = t.tempo; scale = x }
