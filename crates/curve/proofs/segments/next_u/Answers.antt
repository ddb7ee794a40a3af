-- `next_u`: the definition's two operations.
use mathlib.Core.Path.{refl}
use Rattle.curve.proofs.segments.next_u.Goals as goal

pub returns : goal.returns
returns c = refl
