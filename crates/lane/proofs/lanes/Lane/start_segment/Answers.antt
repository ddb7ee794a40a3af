-- `start_segment`: its three callees ensure the definition's three terms.
use Rattle.lane.specs.Planning.{start_segment}
use Rattle.lane.proofs.lanes.Lane.start_segment.Goals as goal

pub returns : goal.returns
unfolding start_segment
returns c = simp (c.segment.ensures, c.min-len.ensures, c.saturating_sub-rest.ensures)
