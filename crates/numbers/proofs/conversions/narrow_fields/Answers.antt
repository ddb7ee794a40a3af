-- `narrow_fields`: by the exponent field the result overflows, is normal, is subnormal or is zero, and each return is one law of `Narrowing`.
use Rattle.std.proofs.Common.{arith}
use Rattle.numbers.proofs.Narrowing.{narrowed-overflow, narrowed-normal, narrowed-subnormal, narrowed-zero, divisor, kept-normal}
use Rattle.numbers.proofs.conversions.narrow_fields.Goals as goal

pub returns-then-e-ge1151 : goal.returns-then-e-ge1151
returns-then-e-ge1151 c = narrowed-overflow c.args.e c.args.t c.requires.0 c.requires.1 c.requires.2 c.if-e-ge1151.true

pub overflow_add-result : goal.overflow_add-result
overflow_add-result c = omega (arith, kept-normal c.args.t c.requires.1)

pub returns-then-e-ge897 : goal.returns-then-e-ge897
returns-then-e-ge897 c = narrowed-normal c.args.e c.args.t c.nearest.result c.requires.1 (omega arith) (omega arith) c.nearest.ensures

pub nearest-requires-then-e-ge873 : goal.nearest-requires-then-e-ge873
nearest-requires-then-e-ge873 c = divisor c.args.e c.args.t c.requires.1 (omega arith) (omega arith)

pub returns-then-e-ge873 : goal.returns-then-e-ge873
returns-then-e-ge873 c = narrowed-subnormal c.args.e c.args.t c.nearest-then-e-ge873.result c.requires.1 (omega arith) (omega arith) c.nearest-then-e-ge873.ensures

pub returns : goal.returns
returns c = narrowed-zero c.args.e c.args.t c.requires.1 (omega arith)
