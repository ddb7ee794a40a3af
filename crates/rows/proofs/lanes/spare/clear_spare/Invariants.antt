-- `clear_spare`: lane after lane, those of the last group that are no voices. Invariant: the lanes from the first spare one up to w are silent, and
-- every other number is as before (`Cleared`).
use Rattle.rows.specs.Rows.{Cleared}
use Rattle.rows.proofs.lanes.spare.clear_spare.Given as goal

abbrev pub invariant-loop-w : goal.invariant-loop-w
invariant-loop-w l = Cleared l.initial.w l.w l.initial.f l.f
