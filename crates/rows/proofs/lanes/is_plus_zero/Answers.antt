-- `is_plus_zero`: a float is determined by its bits (`of_bits-to_bits`), and +0 alone has all bits 0.
use mathlib.Core.Path.{sym, ap, ◌∙◌, subst}
use borrow.Author.Tests.{eqb-true}
use lib.Dec.{T}
use lib.Ieee.{binary32, of_bits}
use lib.Ieee.Bits.{of_bits-to_bits}
use Rattle.rows.proofs.lanes.is_plus_zero.Goals as goal

pub returns : goal.returns
unfolding of_bits
returns c =
    λ e.
    sym (of_bits-to_bits binary32 c.args.x (subst T (sym c.well_formed.0.1) tt))
    ∙ ap (of_bits binary32) (sym c.f32_to_bits.ensures ∙ eqb-true _ _ e)
