-- `narrow`: a NaN stays one (`narrow_nan`); else the sign and what `narrow_fields` ensures are the pattern of the answer (`narrow_pattern`), which is
-- no NaN and fits in 32 bits.
use Rattle.std.proofs.Common.{T, sym, ap, ◌∙◌, subst, arith}
use lib.Ieee.{binary64, fits, of_bits}
use Rattle.numbers.specs.Conversions.{narrow}
use Rattle.numbers.proofs.Laws.Floats.{is_nan_nan}
use Rattle.numbers.proofs.Laws.Patterns.{pattern_lt, field_ranges}
use Rattle.numbers.proofs.Narrowing.{narrow_nan, narrow_pattern, pattern_not_nan}
use Rattle.numbers.proofs.conversions.narrow.Goals as goal
use Rattle.numbers.proofs.conversions.narrow.Goals.{Start}

in_format : (c : Start) → T (fits binary64 c.args.x)
in_format c = subst T (sym c.well_formed.0.1) tt

pub returns-then-is_nan : goal.returns-then-is_nan
unfolding of_bits
returns-then-is_nan c = sym (ap narrow (is_nan_nan c.args.x (sym c.is_nan.ensures.value ∙ c.if-is_nan.true)) ∙ narrow_nan)

pub narrow_fields-magnitude-requires : goal.narrow_fields-magnitude-requires
narrow_fields-magnitude-requires c = field_ranges c.args.x (in_format (goal.at.narrow_fields-magnitude-requires c).Start) (rw c.if-is_nan.false at c.is_nan.ensures.not_nan)

pub overflow_mul-result : goal.overflow_mul-result
overflow_mul-result c = omega (arith, pattern_lt c.args.x (in_format (goal.at.overflow_mul-result c).Start))

pub overflow_add-result : goal.overflow_add-result
overflow_add-result c = omega (arith, pattern_lt c.args.x (in_format (goal.at.overflow_add-result c).Start), c.narrow_fields-magnitude.ensures.small)

pub overflow_cast-result : goal.overflow_cast-result
overflow_cast-result c = omega (arith, pattern_lt c.args.x (in_format (goal.at.overflow_cast-result c).Start), c.narrow_fields-magnitude.ensures.small)

pub float_from_bits-result : goal.float_from_bits-result
float_from_bits-result c =
    pattern_not_nan c.args.x (in_format (goal.at.float_from_bits-result c).Start) c.narrow_fields-magnitude.result c.narrow_fields-magnitude.ensures (rw c.if-is_nan.false at c.is_nan.ensures.not_nan)

pub returns : goal.returns
returns c = narrow_pattern c.args.x (in_format (goal.at.returns c).Start) c.narrow_fields-magnitude.result c.narrow_fields-magnitude.ensures
