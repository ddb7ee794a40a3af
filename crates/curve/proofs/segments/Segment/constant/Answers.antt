-- `constant`: each field is the definition's, once the code's 0 and 1 are its numbers (`of_bits`).
use mathlib.Core.Path.{refl}
use lib.Ieee.{of_bits}
use Rattle.curve.proofs.segments.Segment.constant.Goals as goal

pub returns : goal.returns
unfolding of_bits
returns c = refl
