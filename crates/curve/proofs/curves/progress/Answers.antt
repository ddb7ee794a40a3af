-- `progress`: by the test for a bend of 0, each return is the definition's case, by what `exp_m1` ensures.
use lib.Ieee.{of_bits}
use Rattle.curve.specs.Curves.{progress}
use Rattle.curve.proofs.curves.progress.Goals as goal

pub returns-then-k : goal.returns-then-k
unfolding progress of_bits
returns-then-k c = simp c.if-k.true

pub returns-else-k : goal.returns-else-k
unfolding progress of_bits
returns-else-k c = simp (c.if-k.false, c.exp_m1.ensures, c.exp_m1-else-k.ensures)
