-- `unit`: three returns for x inside 0..1, above it and below it, each by its law (`unit-inside`, `unit-above`, `unit-below`).
use Rattle.std.proofs.Common.{T, sym, subst}
use lib.Ieee.{binary32, fits, of_bits}
use Rattle.numbers.proofs.UnitInterval.{unit-inside, unit-above, unit-below}
use Rattle.numbers.proofs.limits.unit.Goals as goal
use Rattle.numbers.proofs.limits.unit.Goals.{Start}

in_format : (c : Start) → T (fits binary32 c.args.x)
in_format c = subst T (sym c.well_formed.0.1) tt

pub returns-then-x-2 : goal.returns-then-x-2
unfolding of_bits
returns-then-x-2 c = sym (unit-inside c.args.x (in_format (goal.at.returns-then-x-2 c).Start) c.if-x.true c.if-x-2.true)

pub returns-else-x-2 : goal.returns-else-x-2
unfolding of_bits
returns-else-x-2 c = sym (unit-above c.args.x (in_format (goal.at.returns-else-x-2 c).Start) c.if-x.true c.if-x-2.false)

pub returns-else-x : goal.returns-else-x
unfolding of_bits
returns-else-x c = sym (unit-below c.args.x c.if-x.false)
