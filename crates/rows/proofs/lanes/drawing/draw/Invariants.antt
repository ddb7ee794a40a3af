-- `draw`: block after block. Invariant: the first `done` rows are drawn, and the output past them is as it was (`Drawn`). Measure: the rows left.
use Rattle.std.proofs.Common.{◌-◌, ◌≤◌}
use Rattle.rows.specs.Rows.{Drawn}
use Rattle.rows.proofs.lanes.drawing.draw.Given as goal

abbrev pub invariant-loop-done : goal.invariant-loop-done
invariant-loop-done g l = (l.done ≤ l.rows) × Drawn g.P.Place.past_end g.row.N g.P.Place.cell l.groups l.done l.initial.f l.initial.out l.out l.f

abbrev pub decreases-loop-done : goal.decreases-loop-done
decreases-loop-done g l = l.rows - l.done
