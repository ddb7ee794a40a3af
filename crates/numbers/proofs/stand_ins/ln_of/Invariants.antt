-- `ln_of`: the series by Horner's rule. Invariant: the n terms left, run from the present value, give the whole series.
use Rattle.std.proofs.Common.{◌≡◌}
use Rattle.numbers.specs.StandIns.{ln_series}
use Rattle.numbers.proofs.stand_ins.ln_of.Given as goal

abbrev pub invariant-loop-n : goal.invariant-loop-n
invariant-loop-n l = ln_series l.n l.s l.t ≡ ln_series 11 l.s l.initial.t
