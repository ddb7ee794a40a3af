-- `draw_still`: row after row. Invariant: the first k rows are laid, and every other place is as it was (`Laid`).
use Rattle.std.proofs.Common.{◌+◌}
use Rattle.rows.specs.Rows.{drawn_at, Laid}
use Rattle.rows.proofs.lanes.drawing.draw_still.Given as goal

abbrev pub invariant-loop-k : goal.invariant-loop-k
invariant-loop-k g l =
    Laid g.P.Place.past_end g.row.N g.P.Place.cell l.stride l.at l.k (λ k i. drawn_at k l.f (l.g + i)) l.initial.out l.out
