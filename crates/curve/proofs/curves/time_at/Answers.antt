-- `time_at`: by the test for a bend of 0, each return is the definition's case, by what `clamp`, `exp_m1` and `ln_1p` ensure.
use lib.Ieee.{of_bits}
use Rattle.curve.specs.Curves.{time_at}
use Rattle.curve.proofs.curves.time_at.Goals as goal

pub returns-then-k : goal.returns-then-k
unfolding time_at of_bits
returns-then-k c = simp (c.if-k.true, c.clamp-v.ensures)

pub returns-else-k : goal.returns-else-k
unfolding time_at of_bits
returns-else-k c =
    simp
    (c.clamp.ensures, c.ln_1p.ensures, c.exp_m1.ensures, c.if-k.false, c.clamp-v.ensures)
