-- `draw`: a block has at least one row, no more than are left, and fits in the output (`fits`), so that fewer rows are left each time; drawn behind
-- the rows before it, it makes so many more (`drawn_on`).
use Rattle.std.proofs.Common.{refl, ◌+◌, ◌*◌, ◌≤◌, length, length-take, length-drop, arith}
use Rattle.rows.proofs.RowsDrawn.{run_fits}
use Rattle.rows.proofs.BlocksDrawn.{block-rows, drawn_on}
use Rattle.rows.proofs.lanes.drawing.draw.Given.{Over}
use Rattle.rows.proofs.lanes.drawing.draw.Goals as goal
use Rattle.rows.proofs.lanes.drawing.draw.Goals.{After-min-n}

-- A block has rows, no more than are left, and room.
fits : (g : Over) (c : After-min-n g)
    → (1 ≤ c.min-n.result)
    × (c.loop-done.done + c.min-n.result ≤ c.args.rows)
    × (c.loop-done.done * (g.row.N * c.groups-groups.result) + c.min-n.result * (g.row.N * c.groups-groups.result) ≤ length c.loop-done.out)
fits g c =
    let n = c.min-n.result in
    let groups = c.groups-groups.result in
    let rows = block-rows groups (omega arith) (omega arith) in
    let run = run_fits c.loop-done.done n c.args.rows (g.row.N * groups) (omega arith) in
    (omega arith, omega arith, omega arith)

pub draw_block-requires : goal.draw_block-requires
draw_block-requires g c =
    let h = fits g (goal.at.draw_block-requires g c).After-min-n in
    (omega arith, omega (arith, length-take {A = g.row.P.Denot}, length-drop {A = g.row.P.Denot}))

pub loop-done-preserved : goal.loop-done-preserved
loop-done-preserved g c =
    let a = c.args in
    let l = c.loop-done in
    let h = fits g (goal.at.loop-done-preserved g c).After-min-n in (
      omega arith,
      drawn_on g.P.Place.past_end g.row.N g.P.Place.cell g.met.P.Place.by_levels c.groups-groups.result l.done c.min-n.result _ (omega arith) a.f.now l.f _ a.out.now
          l.out _ refl (omega arith) l.invariant.1 c.draw_block.ensures,
    )
