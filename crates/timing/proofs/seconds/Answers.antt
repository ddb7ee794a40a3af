-- `seconds`: an arm for each unit, each the definition's case.
use lib.Ieee.{of_bits}
use Rattle.timing.specs.Samples.{seconds}
use Rattle.timing.proofs.seconds.Goals as goal

pub returns-in-Milliseconds : goal.returns-in-Milliseconds
unfolding seconds of_bits
returns-in-Milliseconds c = simp (c.widen-x.ensures, c.in-Milliseconds.is)

pub returns-in-Tempo : goal.returns-in-Tempo
unfolding seconds of_bits
returns-in-Tempo c = simp (c.max.ensures, c.widen-x.ensures, c.in-Tempo.is)
