-- `check_timing`: one test, the definition's.
use lib.Ieee.{of_bits}
use Rattle.settings.specs.Refusals.{timing, rate_over}
use Rattle.settings.proofs.refusals.check_timing.Goals as goal

pub returns-then-timing : goal.returns-then-timing
unfolding timing rate_over of_bits
returns-then-timing c = simp c.if-timing.true

pub returns : goal.returns
unfolding timing rate_over of_bits
returns c = simp c.if-timing.false
