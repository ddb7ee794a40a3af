-- `exp_m1`, two loops that take the steps of E's definition. Invariant of the first: the terms that are left, run from t, and then w times them and
-- six doublings give E(z). Of the second: the doublings that are left, run from y, give E(z).
use Rattle.std.proofs.Common.{◌≡◌, ◌-◌}
use lib.Ieee.{binary64, mul}
use Rattle.numbers.specs.StandIns.{exp_series, doublings, exp_m1}
use Rattle.numbers.proofs.stand_ins.exp_m1.Given as goal

abbrev pub invariant-loop-j : goal.invariant-loop-j
invariant-loop-j l = doublings 6 (mul binary64 l.w (exp_series (l.j - 2) l.w l.t)) ≡ exp_m1 l.z

abbrev pub invariant-loop : goal.invariant-loop
invariant-loop l = doublings (6 - l.counter) l.y ≡ exp_m1 l.z
