-- `exp_m1`: an iteration of the first loop is a term of the series (`series_step`), one of the second a doubling (`doublings_step`). When no term is
-- left, the second loop's invariant is the first's (`series_done`); when no doubling is left, y is E(z) (`doublings_done`).
use Rattle.std.proofs.Common.{◌+◌, ◌-◌, sym, ap, ◌∙◌, arith}
use lib.Ieee.{Float, binary64, mul}
use Rattle.numbers.specs.StandIns.{doublings}
use Rattle.numbers.proofs.Exponential.{reduced, exp-start, series_step, series_done, doublings_step, doublings_done}
use Rattle.numbers.proofs.stand_ins.exp_m1.Goals as goal

pub loop-j-init : goal.loop-j-init
loop-j-init c = exp-start c.args.z

pub loop-j-preserved : goal.loop-j-preserved
loop-j-preserved c =
    let w = reduced c.args.z in
    ap (λ (s : Float). doublings 6 (mul binary64 w s)) (sym (series_step (c.loop-j.j - 1 - 2) (c.loop-j.j - 2) (c.loop-j.j - 1) w c.loop-j.t (omega arith) (omega arith))) ∙ c.loop-j.invariant

pub loop-init : goal.loop-init
loop-init c =
    let w = reduced c.args.z in
    ap (λ (s : Float). doublings 6 (mul binary64 w s)) (series_done (c.loop-j.j - 2) w c.loop-j.t (omega arith)) ∙ c.loop-j.invariant

pub loop-preserved : goal.loop-preserved
loop-preserved c = sym (doublings_step (6 - (c.loop.counter + 1)) (6 - c.loop.counter) c.loop.y (omega arith)) ∙ c.loop.invariant

pub returns : goal.returns
returns c = doublings_done (6 - c.loop.counter) c.loop.y (omega arith) ∙ c.loop.invariant
