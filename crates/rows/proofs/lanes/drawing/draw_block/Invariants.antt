-- `draw_block`: group after group. Invariant: the first q groups of every row are drawn, and what is past the rows is as it was (`GroupsDrawn`).
use Rattle.std.proofs.Common.{◌*◌}
use Rattle.rows.proofs.GroupsDrawn.{GroupsDrawn}
use Rattle.rows.proofs.lanes.drawing.draw_block.Given as goal

abbrev pub invariant-loop-q : goal.invariant-loop-q
invariant-loop-q g l =
    GroupsDrawn g.P.Place.past_end g.row.N g.P.Place.cell (g.row.N * l.groups) l.q l.rows l.initial.f l.initial.out l.out l.f
