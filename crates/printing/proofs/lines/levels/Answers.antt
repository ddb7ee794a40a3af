-- `levels`: voice after voice. Invariant: the levels before v are put.
use Rattle.std.proofs.Common.{ap}
use Rattle.printing.specs.Lines.{level}
use Rattle.printing.proofs.Writing.{and_then, renamed, each-more}
use Rattle.printing.proofs.lines.levels.Goals as goal

pub loop-v-preserved : goal.loop-v-preserved
loop-v-preserved c =
    let l = c.loop-v in
    renamed _ (and_then _ _ l.invariant _ (renamed _ c.level-at.ensures (ap level c.bits.ensures))) (each-more l.v _)
