-- `ln_1p`: each return is a branch of L. 1 + a is 1 (`ln_same`); or positive and finite, with m halved (`ln_halved`) or kept (`ln_kept`); or not
-- (`ln_infinite`, `ln_not_above`).
use Rattle.std.proofs.Common.{◌/◌, ◌^◌, ◌<◌, T, sym, subst}
use Rattle.numbers.proofs.Logarithm.{W, positive_not_nan, ln_same, ln_not_above, ln_infinite, ln_halved, ln_kept, field_lt, m_not_nan, field_cast, exponent-fits, raised_fits}
use lib.Ieee.{binary64, of_bits, to_bits, fits}
use Rattle.numbers.proofs.stand_ins.ln_1p.Goals as goal
use Rattle.numbers.proofs.stand_ins.ln_1p.Goals.{Start, Then-w-3, else-w-2-via-then-w-2+else-w-3, else-w-2-via-else-w-2}

in_format : (c : Start) → T (fits binary64 c.args.a)
in_format c = subst T (sym c.well_formed.0.1) tt

pub returns-then-w : goal.returns-then-w
returns-then-w c = ln_same c.args.a c.if-w.true

pub float_to_bits-b : goal.float_to_bits-b
float_to_bits-b c = positive_not_nan (W c.args.a) c.if-w-2.true

low : (c : Then-w-3) → to_bits binary64 (W c.args.a) / 2 ^ 52 < 4096
low c = field_lt c.args.a (in_format c.before.before.before) c.if-w.false c.if-w-2.true c.if-w-3.true

pub overflow_cast-e : goal.overflow_cast-e
overflow_cast-e c = field_cast _ (low c)

pub overflow_sub-e : goal.overflow_sub-e
overflow_sub-e c = exponent-fits _ (low c)

pub float_from_bits-m : goal.float_from_bits-m
float_from_bits-m c = m_not_nan c.args.a (in_format (goal.at.float_from_bits-m c).Start) c.if-w.false c.if-w-2.true c.if-w-3.true

pub overflow_add-e : goal.overflow_add-e
overflow_add-e c = raised_fits _ (low (goal.at.overflow_add-e c).Then-w-3)

pub returns-then-m : goal.returns-then-m
returns-then-m c =
    ln_halved c.args.a (in_format (goal.at.returns-then-m c).Start) c.if-w.false c.if-w-2.true c.if-w-3.true c.ln_of.result c.if-m.true c.ln_of.ensures

pub returns-else-m : goal.returns-else-m
returns-else-m c =
    ln_kept c.args.a (in_format (goal.at.returns-else-m c).Start) c.if-w.false c.if-w-2.true c.if-w-3.true c.ln_of-else-m.result c.if-m.false c.ln_of-else-m.ensures

pub returns-else-w-2 : goal.returns-else-w-2
unfolding of_bits
returns-else-w-2 c =
    elim c.else-w-2.branch [
      | else-w-2-via-then-w-2+else-w-3 w ↦ ln_infinite c.args.a c.if-w.false w.if-w-2.true w.if-w-3.false
      | else-w-2-via-else-w-2 w ↦ ln_not_above c.args.a c.if-w.false w.if-w-2.false
    ]
