-- `new`: the tempo and the scale, as bits, are the definition's floats.
use mathlib.Core.Path.{refl}
use lib.Ieee.{of_bits}
use Rattle.timing.proofs.Timing.new.Goals as goal

pub returns : goal.returns
unfolding of_bits
returns c = refl
