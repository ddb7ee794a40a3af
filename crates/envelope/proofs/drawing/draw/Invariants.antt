-- `draw`: level after level. Invariant: the levels before the index are the segment's, and u has taken as many steps.
use Rattle.std.proofs.Common.{◌≡◌, ℕ, ◌<◌, get_or}
use Rattle.std.specs.Float.{nan}
use Rattle.curve.specs.Segments.{u_after}
use Rattle.envelope.specs.Parts.{level_after}
use Rattle.envelope.proofs.drawing.draw.Given as goal

abbrev pub invariant-loop-level : goal.invariant-loop-level
invariant-loop-level l =
    ((k : ℕ) → k < l.level-index → get_or l.level-items k nan ≡ level_after l.seg k)
    × (l.u ≡ u_after l.level-index l.seg.u l.seg.r l.seg.d)
