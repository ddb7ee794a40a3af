-- `run_length`: by the test for an untimed segment, each return is the definition's case.
use Rattle.std.proofs.Common.{eq-eqb, ne_eqb, arith}
use Rattle.curve.specs.Segments.{run_length, untimed}
use Rattle.curve.proofs.segments.run_length.Goals as goal

pub returns-then-left-eq-UNTIMED-clause-length : goal.returns-then-left-eq-UNTIMED-clause-length
unfolding run_length
returns-then-left-eq-UNTIMED-clause-length c = rw (eq-eqb c.args.left untimed c.if-left-eq-UNTIMED.true)

pub returns-else-left-eq-UNTIMED-clause-length : goal.returns-else-left-eq-UNTIMED-clause-length
unfolding run_length
returns-else-left-eq-UNTIMED-clause-length c = rw (ne_eqb c.args.left untimed c.if-left-eq-UNTIMED.false) (omega arith)
