-- `draw_still`: an iteration lays row k (`laid_more`), which is the first row, since the lanes stay (`still-level`).
use Rattle.std.proofs.Common.{◌≡◌, refl, ◌∙◌, ℕ, ◌+◌, ◌*◌, ◌<◌, get_or}
use Rattle.std.specs.Float.{nan}
use Rattle.rows.specs.Rows.{drawn_at}
use Rattle.rows.proofs.LanesMoved.{row-levels, still-level}
use Rattle.rows.proofs.RowsDrawn.{laid_more}
use Rattle.rows.proofs.GroupsDrawn.{one_by_levels}
use Rattle.rows.proofs.lanes.drawing.draw_still.Goals as goal

pub loop-k-preserved : goal.loop-k-preserved
loop-k-preserved g c =
    let a = c.args in
    let l = c.loop-k in
    let p = g.P.Place in
    let f = a.f.now in
    let x = c.new in
    let Y : (i : ℕ) → i < 16 → get_or c.levels.result i nan ≡ drawn_at l.k f (a.g + i) =
    λ i h. row-levels a.g f 0 x.result.u x.ensures.u.lane _ _ c.levels.result x.ensures.scale x.ensures.base c.levels.ensures i h
    ∙ still-level a.g f c.requires.still l.k i h
    in
    laid_more p.past_end g.row.N p.cell a.stride a.at (λ k i. drawn_at k f (a.g + i)) l.k a.out.now l.out _ _ (a.at + l.k * a.stride) c.requires.fits.inside refl
    l.invariant
    (λ i h. c.row_of-row.ensures i h
    ∙ one_by_levels g.row.N p.cell g.met.P.Place.by_levels (λ i. get_or c.levels.result i nan) (λ i. drawn_at l.k f (a.g + i)) Y i h)
    (c.put.ensures p.past_end)
