-- `count_down`: voice after voice. Invariant: the run is taken off what the segments so far have left, and every other number is as before
-- (`Filled`).
use Rattle.filled.specs.Filled.{Filled}
use Rattle.memory.specs.Memory.{left_at}
use Rattle.rows.specs.Runs.{left_after}
use Rattle.rows.proofs.runs.count_down.Given as goal

abbrev pub invariant-loop-left : goal.invariant-loop-left
invariant-loop-left l = Filled 0 (λ v. left_after (left_at l.fn.c v) l.run) 0 l.left-index l.initial.left-items l.left-items
