-- `frame`: the number, the levels, the line's end.
use Rattle.printing.proofs.Writing.{and_then}
use Rattle.printing.proofs.lines.frame.Goals as goal

pub returns : goal.returns
returns c = and_then _ _ (and_then _ _ c.decimal-at.ensures _ c.levels-at.ensures) _ c.put.ensures
