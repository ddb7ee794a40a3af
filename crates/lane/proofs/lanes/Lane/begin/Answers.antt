-- `begin`: what `start_segment` ensures of the plan, whose fields are the definition's.
use Rattle.lane.specs.Planning.{begin}
use Rattle.lane.proofs.lanes.Lane.begin.Goals as goal

pub returns : goal.returns
unfolding begin
returns c = c.start_segment.ensures
