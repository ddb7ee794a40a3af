-- `left_after`: an untimed segment stays so, and a timed one loses the run and stops at 0: by the test, each return is a case of the definition.
use Rattle.std.proofs.Common.{rules}
use Rattle.rows.specs.Runs.{left_after}
use Rattle.rows.proofs.runs.left_after.Goals as goal

pub returns-then-left-eq-UNTIMED : goal.returns-then-left-eq-UNTIMED
unfolding left_after
returns-then-left-eq-UNTIMED c = search rules

pub returns : goal.returns
unfolding left_after
returns c = search rules
