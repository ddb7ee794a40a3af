-- `level_from`: the definition's two operations.
use mathlib.Core.Path.{refl}
use Rattle.curve.proofs.segments.level_from.Goals as goal

pub returns : goal.returns
returns c = refl
