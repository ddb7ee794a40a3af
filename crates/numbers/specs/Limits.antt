-- Limiting a number: `unit`, float `max` and `clamp`. Written from document 01, 'Number helpers', and mod.rs.
use Rattle.std.specs.Prelude.{cond, is_nan, Float}
use Rattle.std.specs.Float.{binary32}
use Rattle.std.specs.Float.Ieee.{add, lt}
use Rattle.numbers.specs.Constants.{zero, one}

-- Rust's `clamp`, which leaves a NaN as it is.
unfoldable pub clamp : Float → Float → Float → Float
clamp x low high = cond (lt x low) low (cond (lt high x) high x)

-- Document 01: NaN gives 0; else limited to 0..1, never negative zero. As mod.rs has it, adding +0 turns -0 into +0.
unfoldable pub unit : Float → Float
unit x = cond (is_nan x) zero (add binary32 (clamp x zero one) zero)

-- Document 01: max with one NaN gives the other operand. Of two equal operands, such as -0 and +0, it is the first.
unfoldable pub max : Float → Float → Float
max x y = cond (is_nan x) y (cond (is_nan y) x (cond (lt x y) y x))
