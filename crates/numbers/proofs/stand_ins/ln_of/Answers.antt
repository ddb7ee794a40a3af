-- `ln_of`: an iteration is a term of the series (`series_step`). When none is left (`series_done`), the factors after the loop are the definition's
-- (`ln_of_is`).
use Rattle.std.proofs.Common.{◌-◌, ◌∙◌, arith, w32, rules}
use lib.Ieee.{nan_bits}
use mir.ValLaws.{to_z-of_z}
use Rattle.numbers.proofs.Logarithm.{series_step, series_done, ln_of_is, ratio}
use Rattle.numbers.proofs.stand_ins.ln_of.Goals as goal

pub loop-n-preserved : goal.loop-n-preserved
loop-n-preserved c = series_step (c.loop-n.n - 1) c.loop-n.n (ratio c.args.m) c.loop-n.t (omega arith) ∙ c.loop-n.invariant

pub float_from_bits-result : goal.float_from_bits-result
unfolding nan_bits
float_from_bits-result c = search rules

pub returns : goal.returns
returns c =
    ln_of_is c.args.a c.args.w c.args.m c.args.e _ c.loop-n.t (to_z-of_z w32 c.args.e c.ranges.e)
    (series_done c.loop-n.n (ratio c.args.m) c.loop-n.t (omega arith) ∙ c.loop-n.invariant)
