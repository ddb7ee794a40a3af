-- Tail and lead, which document 01 adds.
use Rattle.std.specs.Prelude.{ℕ, zero, suc, ◌+◌, ◌-◌, cond, Float}
use Rattle.numbers.specs.Counts.{saturated}
use Rattle.timing.specs.declared.Timing.{Timing}
use Rattle.timing.specs.Samples.{samples}
use Rattle.settings.specs.declared.settings.EnvelopeParams.{EnvelopeParams}
use Rattle.settings.specs.declared.stages.Stage.{Stage}
use Rattle.lane.specs.declared.lanes.Voice.{Voice}
use Rattle.settings.specs.Stages.{next, timed_stages, is_idle, is_before_sustain}
use Rattle.lane.specs.Planning.{spec, join}

-- 0 when Idle, else the release count.
unfoldable pub tail : Timing → Voice → ℕ
tail t v = cond (is_idle v.lane.stage) 0 (samples t v.lane.params.release v.lane.params.unit)

-- The samples that the present stage has left.
unfoldable pub rest : Voice → ℕ
rest v = (v.lane.curve_total - v.lane.pos - v.lane.seg_len) + v.seg.left

-- How long a stage lasts that begins at a level: its count less its place.
unfoldable pub lasts : EnvelopeParams → Timing → Stage → Float → ℕ
lasts p t s level = let sp = spec p s t level in sp.total - (join p s level sp).pos

-- How long n stages last, from s on, that begins at a level.
unfoldable pub last_from : ℕ → EnvelopeParams → Timing → Stage → Float → ℕ
last_from zero p t s level = 0
last_from (suc n) p t s level = lasts p t s level + last_from n p t (next s) (spec p s t level).to

-- The frames until Sustain, were only frames to follow; 0 in Idle, Sustain and Release.
unfoldable pub lead : Timing → Voice → ℕ
lead t v =
    let s = next v.lane.stage in
    cond (is_before_sustain v.lane.stage) (saturated (rest v + last_from (timed_stages s) v.lane.params t s v.lane.to)) 0
