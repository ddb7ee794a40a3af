-- `at`: the sum, the product and the quotient are the definition's, by what `progress` and `of_u64` ensure.
use Rattle.curve.specs.Curves.{at}
use Rattle.curve.proofs.curves.at.Goals as goal

pub returns : goal.returns
unfolding at
returns c = simp (c.progress.ensures, c.of_u64.ensures)
