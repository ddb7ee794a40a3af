-- `level`: the formula of a level at the segment's own numbers.
use Rattle.curve.specs.Segments.{level}
use Rattle.curve.proofs.segments.Segment.level.Goals as goal

pub returns : goal.returns
unfolding level
returns c = c.level_from.ensures
