-- `exp`: one addition after `exp_m1`, as in the definition.
use Rattle.std.proofs.Common.{ap}
use lib.Ieee.{Float, binary64, add, of_bits}
use Rattle.numbers.specs.StandIns.{exp}
use Rattle.numbers.specs.Constants.{one}
use Rattle.numbers.proofs.stand_ins.exp.Goals as goal

pub returns : goal.returns
unfolding exp of_bits
returns c = ap (λ (y : Float). add binary64 y one) c.exp_m1.ensures
