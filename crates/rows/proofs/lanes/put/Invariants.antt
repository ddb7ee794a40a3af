-- `put`: element after element. Invariant: the first i are stored from `to` on, and every other element is as before (`Filled`).
use Rattle.std.proofs.Common.{◌+◌, ◌-◌, get_or}
use Rattle.filled.specs.Filled.{Filled}
use Rattle.rows.proofs.lanes.put.Given as goal

abbrev pub invariant-loop-i : goal.invariant-loop-i
invariant-loop-i g l = (z : g.row.P.Denot) → Filled z (λ j. get_or l.part (j - l.to) z) l.to (l.to + l.i) l.initial.out l.out
