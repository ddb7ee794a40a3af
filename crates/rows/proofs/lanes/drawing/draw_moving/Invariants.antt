-- `draw_moving`: row after row. Invariant: the first k rows are laid, u is the array's after k rows, and r, d, scale and base are as they were
-- loaded.
use Rattle.std.proofs.Common.{◌+◌}
use Rattle.rows.specs.Rows.{drawn_at, Loaded, Laid}
use Rattle.rows.proofs.LanesMoved.{Moved}
use Rattle.rows.proofs.lanes.drawing.draw_moving.Given as goal

abbrev pub invariant-loop-k : goal.invariant-loop-k
invariant-loop-k g l = record {
  laid : Laid g.P.Place.past_end g.row.N g.P.Place.cell l.stride l.at l.k (λ k i. drawn_at k l.f (l.g + i)) l.initial.out l.out;
  u : Moved l.k l.g l.f l.lanes.u;
  r : Loaded (l.g + 68) l.f l.lanes.r;
  d : Loaded (l.g + 136) l.f l.lanes.d;
  scale : Loaded (l.g + 204) l.f l.lanes.scale;
  base : Loaded (l.g + 272) l.f l.lanes.base;
}
