-- `draw_block`: an iteration draws one group more (`groups_more`), by whichever of the two loops the test chose. `draw_still` leaves the array as it
-- is, and rows would too, since these lanes are constant (`group_still`).
use Rattle.std.proofs.Common.{◌*◌}
use Rattle.rows.specs.Rows.{GroupDrawn}
use Rattle.rows.proofs.GroupsDrawn.{group_still, groups_more}
use Rattle.rows.proofs.lanes.drawing.draw_block.Goals as goal
use Rattle.rows.proofs.lanes.drawing.draw_block.Goals.{then-constant, else-constant}

pub loop-q-preserved : goal.loop-q-preserved
loop-q-preserved g c =
    let a = c.args in
    let l = c.loop-q in
    let p = g.P.Place in
    let stride = g.row.N * a.groups in
    let at = g.row.N * l.q in
    let drawn : GroupDrawn p.past_end g.row.N p.cell stride at (16 * l.q) a.rows l.f l.out c.if-constant.out c.if-constant.f =
    elim c.if-constant.branch [
      | then-constant w ↦
          rw (w.out-is, w.f-is)
          (group_still p.past_end g.row.N p.cell stride at (16 * l.q) a.rows l.f l.out _ (c.constant.ensures w.if-constant.true).0 w.draw_still.ensures)
      | else-constant w ↦ rw (w.out-is, w.f-is) w.draw_moving.ensures
    ]
    in
    groups_more p.past_end g.row.N p.cell g.met.P.Place.by_levels g.met.P.Place.shifts stride l.q a.rows a.f.now l.f a.out.now l.out _ _ l.invariant drawn
