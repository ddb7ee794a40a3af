-- `tail`: 0 in Idle, else the count of samples that `samples` ensures.
use Rattle.lane.specs.Readings.{tail}
use Rattle.lane.proofs.lanes.Voice.tail.Goals as goal

pub returns-then-is_idle : goal.returns-then-is_idle
unfolding tail
returns-then-is_idle c = simp (simp c.is_idle.ensures at c.if-is_idle.true)

pub returns-else-is_idle : goal.returns-else-is_idle
unfolding tail
returns-else-is_idle c = simp (c.samples.ensures, simp c.is_idle.ensures at c.if-is_idle.false)
