-- `new`: each field is the definition's, by what `unit` and `constant` ensure.
use lib.Ieee.{of_bits}
use Rattle.lane.specs.Planning.{new}
use Rattle.lane.proofs.lanes.Lane.new.Goals as goal

pub returns : goal.returns
unfolding new of_bits
returns c = simp (c.constant.ensures, c.unit-end.ensures)
