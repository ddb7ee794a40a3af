-- `round_to_u64`: a NaN (`round_nan`) and a number with a sign (`rounded_negative`) give 0; any other is rounded by its fields (`round_fields_lem`).
use Rattle.std.proofs.Common.{true, false, T, sym, ◌∙◌, subst, le-leb}
use borrow.Author.Tests.{lt-leb}
use lib.Ieee.{binary64, fits}
use Rattle.numbers.proofs.Laws.Floats.{is_nan_nan}
use Rattle.numbers.proofs.Laws.Patterns.{field_ranges}
use Rattle.numbers.proofs.Rounding.{round_nan, round_fields_lem, rounded_negative}
use Rattle.numbers.proofs.conversions.round_to_u64.Goals as goal
use Rattle.numbers.proofs.conversions.round_to_u64.Goals.{Start}

in_format : (c : Start) → T (fits binary64 c.args.x)
in_format c = subst T (sym c.well_formed.0.1) tt

pub returns-then-is_nan : goal.returns-then-is_nan
returns-then-is_nan c = round_nan c.args.x (is_nan_nan c.args.x (sym c.is_nan.ensures.value ∙ c.if-is_nan.true))

pub returns-then-bits-ge9223372036854775808 : goal.returns-then-bits-ge9223372036854775808
returns-then-bits-ge9223372036854775808 c =
    let x = c.args.x in
    let a = field_ranges x (in_format (goal.at.returns-then-bits-ge9223372036854775808 c).Start) (rw c.if-is_nan.false at c.is_nan.ensures.not_nan) in
    rounded_negative _ _ a.0 a.2 ∙ round_fields_lem x (in_format (goal.at.returns-then-bits-ge9223372036854775808 c).Start) true (le-leb _ _ c.if-bits-ge9223372036854775808.true)

pub round_fields-requires : goal.round_fields-requires
round_fields-requires c =
    field_ranges c.args.x (in_format (goal.at.round_fields-requires c).Start) (rw c.if-is_nan.false at c.is_nan.ensures.not_nan)

pub returns : goal.returns
returns c =
    c.round_fields.ensures ∙ round_fields_lem c.args.x (in_format (goal.at.returns c).Start) false (lt-leb _ _ c.if-bits-ge9223372036854775808.false)
