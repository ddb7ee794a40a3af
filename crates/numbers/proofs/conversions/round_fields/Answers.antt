-- `round_fields`: by the exponent field the number saturates, is whole, has a fraction or rounds to 0, and each return is one law of `Rounding`.
use Rattle.std.proofs.Common.{arith}
use Rattle.numbers.proofs.Rounding.{rounded_saturated, rounded_whole, rounded_fraction, rounded_zero, divisor}
use Rattle.numbers.proofs.conversions.round_fields.Goals as goal

pub returns-then-e-ge1087 : goal.returns-then-e-ge1087
returns-then-e-ge1087 c = rounded_saturated c.args.e c.args.t c.requires.0 c.requires.2 c.if-e-ge1087.true

pub returns-then-e-ge1076 : goal.returns-then-e-ge1076
returns-then-e-ge1076 c = rounded_whole c.args.e c.args.t c.requires.1 (omega arith) (omega arith)

pub overflow_add-result-then-e-ge1022-2 : goal.overflow_add-result-then-e-ge1022-2
overflow_add-result-then-e-ge1022-2 c = omega (arith, (divisor c.args.e (omega arith) (omega arith)).2)

pub overflow_mul-result-then-e-ge1022 : goal.overflow_mul-result-then-e-ge1022
overflow_mul-result-then-e-ge1022 c = omega (arith, (divisor c.args.e (omega arith) (omega arith)).2)

pub nonzero_div-result : goal.nonzero_div-result
nonzero_div-result c = omega (arith, (divisor c.args.e (omega arith) (omega arith)).1)

pub returns-then-e-ge1022 : goal.returns-then-e-ge1022
returns-then-e-ge1022 c = rounded_fraction c.args.e c.args.t c.requires.1 (omega arith) (omega arith)

pub returns : goal.returns
returns c = rounded_zero c.args.e c.args.t c.requires.1 (omega arith)
