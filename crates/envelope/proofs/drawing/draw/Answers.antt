-- `draw`: an iteration writes one level more, and those before it stay (`below_more`); u has taken one step more (`u_next`).
use Rattle.std.proofs.Common.{◌<◌, ◌≢◌, length, arith, get_or-set_other, get_or-set_same, below_more}
use Rattle.curve.proofs.Steps.{u_next}
use Rattle.envelope.proofs.drawing.draw.Goals as goal

pub loop-level-preserved : goal.loop-level-preserved
loop-level-preserved c =
    let g = c.args.seg in
    let l = c.loop-level in
    let lt : l.level-index < length l.level-items = omega arith in (
      below_more _ _
          (λ k h. let ne : k ≢ l.level-index = omega arith in rw get_or-set_other (l.invariant.0 k h))
          (rw (get_or-set_same, c.level_from.ensures, l.invariant.1)),
      rw (c.next_u-u.ensures, l.invariant.1) (u_next l.level-index g.u g.r g.d),
    )
