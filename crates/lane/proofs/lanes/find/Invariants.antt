-- `find`: stage after stage. Invariant: the definition's search from the present stage and level finds what it finds from the first. Measure: the
-- timed stages from the present one on.
use mathlib.Core.Path.{◌≡◌}
use Rattle.lane.specs.Planning.{find}
use Rattle.settings.specs.Stages.{timed_stages}
use Rattle.lane.proofs.lanes.find.Given as goal

abbrev pub invariant-loop-p : goal.invariant-loop-p
invariant-loop-p l = find l.p l.timing l.stage l.level ≡ find l.p l.timing l.initial.stage l.initial.level

abbrev pub decreases-loop-p : goal.decreases-loop-p
decreases-loop-p l = timed_stages l.stage
