-- `powi`: square and multiply, from the bit below the highest one bit down. Invariant: `pow_bits` of the bits left, from the present product on, is
-- the power.
use Rattle.std.proofs.Common.{◌≡◌}
use Rattle.numbers.specs.StandIns as StandIns
use Rattle.numbers.specs.StandIns.{pow_bits}
use Rattle.numbers.proofs.stand_ins.powi.Given as goal

abbrev pub invariant-loop-bit : goal.invariant-loop-bit
invariant-loop-bit l = pow_bits l.bit l.r l.len l.p ≡ StandIns.powi l.r l.len
