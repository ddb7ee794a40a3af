-- `frames`: frame after frame. Invariant: the lines of the frames before k are put.
use Rattle.std.proofs.Common.{arith}
use Rattle.printing.proofs.Writing.{and_then, renamed, each-more}
use Rattle.printing.proofs.Levels.{row-frame}
use Rattle.printing.proofs.lines.frames.Goals as goal

pub loop-k-preserved : goal.loop-k-preserved
loop-k-preserved c =
    let a = c.args in
    let l = c.loop-k in
    let line = row-frame a.out.now l.k a.stride a.voices a.frames (omega arith) (omega arith) (omega arith) in
    renamed _ (and_then _ _ l.invariant _ (renamed _ c.frame-at.ensures line)) (each-more l.k _)
