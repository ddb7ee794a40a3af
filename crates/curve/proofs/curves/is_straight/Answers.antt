-- `is_straight`: the definition's two tests, with the library's absolute value (`abs_is`).
use mathlib.Core.Path.{refl}
use lib.Ieee.{of_bits}
use Rattle.curve.specs.Curves.{is_straight}
use Rattle.curve.proofs.Straight.{abs_is}
use Rattle.curve.proofs.curves.is_straight.Goals as goal

pub returns-then-abs : goal.returns-then-abs
unfolding is_straight of_bits
returns-then-abs c = rw (← abs_is c.args.bent, ← c.abs.ensures.value, c.if-abs.true) refl

pub returns-else-abs : goal.returns-else-abs
unfolding is_straight of_bits
returns-else-abs c = rw (← abs_is c.args.bent, ← c.abs.ensures.value, c.if-abs.false) refl
