-- `reset`: what `enter` ensures of Idle, once the code's 0 is the definition's (`of_bits`).
use lib.Ieee.{of_bits}
use Rattle.lane.specs.Voices.{reset}
use Rattle.lane.proofs.lanes.Voice.reset.Goals as goal

pub returns : goal.returns
unfolding reset of_bits
returns c = c.enter.ensures
