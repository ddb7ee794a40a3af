-- `draw_moving`: an iteration lays row k, whose levels are those of the array's lanes after k rows (`row-levels`, `laid_more`), and takes u one step
-- on (`row_moved`). At the end u is put back, and the array's lanes are moved on (`group_moved`).
use Rattle.std.proofs.Common.{◌≡◌, refl, ◌∙◌, ◌+◌, ◌*◌, get_or, arith}
use Rattle.std.specs.Float.{nan}
use Rattle.rows.specs.Rows.{drawn_at}
use Rattle.rows.proofs.LanesMoved.{row-levels, row_moved}
use Rattle.rows.proofs.RowsDrawn.{laid_more}
use Rattle.rows.proofs.GroupsDrawn.{one_by_levels, group_moved}
use Rattle.rows.proofs.lanes.drawing.draw_moving.Goals as goal

pub loop-k-preserved : goal.loop-k-preserved
loop-k-preserved g c =
    let a = c.args in
    let l = c.loop-k in
    let I = l.invariant in
    let p = g.P.Place in
    let f = a.f.now in
    let Y = row-levels a.g f l.k l.lanes.u I.u _ _ c.next_row-y.result I.scale I.base c.next_row-y.ensures.levels in
    let kept = c.next_row-y.ensures in
    record {
      laid =
          laid_more p.past_end g.row.N p.cell a.stride a.at (λ k i. drawn_at k f (a.g + i)) l.k a.out.now l.out _ _ (a.at + l.k * a.stride) c.requires.inside refl I.laid
          (λ i h. c.row_of.ensures i h
          ∙ one_by_levels g.row.N p.cell g.met.P.Place.by_levels (λ i. get_or c.next_row-y.result i nan) (λ i. drawn_at l.k f (a.g + i)) Y i h)
          (c.put.ensures p.past_end);
      u = row_moved a.g f l.k l.lanes.u I.u _ _ _ I.r I.d kept.moved;
      r = rw kept.r I.r;
      d = rw kept.d I.d;
      scale = rw kept.scale I.scale;
      base = rw kept.base I.base;
    }

pub returns : goal.returns
returns g c =
    let a = c.args in
    let l = c.loop-k in
    let e : l.k ≡ a.rows = omega arith in
    group_moved g.P.Place.past_end g.row.N g.P.Place.cell a.stride a.at a.g a.rows a.f.now a.out.now l.out l.k l.lanes.u _ e l.invariant.laid l.invariant.u
    (c.put-2.ensures nan)
