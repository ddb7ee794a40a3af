-- `bend`: the products and the difference are the definition's, by what `unit` and `widen` ensure, and so are the code's numbers (`of_bits`).
use lib.Ieee.{of_bits}
use Rattle.curve.specs.Curves.{bend}
use Rattle.curve.proofs.curves.bend.Goals as goal

pub returns : goal.returns
unfolding bend of_bits
returns c = simp (c.widen.ensures, c.unit.ensures)
