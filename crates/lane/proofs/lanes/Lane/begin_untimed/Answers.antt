-- `begin_untimed`: the plan's fields are the definition's, and its segment is what `constant` ensures.
use Rattle.lane.specs.Planning.{begin_untimed}
use Rattle.lane.proofs.lanes.Lane.begin_untimed.Goals as goal

pub returns : goal.returns
unfolding begin_untimed
returns c = simp c.constant.ensures
