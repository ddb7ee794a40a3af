-- `advance`: by the test of the place, which is the definition's, the curve's next part or the next stage.
use borrow.Author.Tests.{lt-ltb, le-ltb}
use Rattle.lane.specs.Planning.{advance, past_segment}
use Rattle.lane.proofs.lanes.Lane.advance.Goals as goal

pub returns-then-lane : goal.returns-then-lane
unfolding advance past_segment
returns-then-lane c =
    simp (c.start_segment.ensures, c.saturating_add.ensures, lt-ltb _ _ (simp c.saturating_add.ensures at c.if-lane.true))

pub returns : goal.returns
unfolding advance past_segment
returns c =
    simp (
      c.enter.ensures,
      c.next.ensures,
      c.saturating_add.ensures,
      le-ltb _ _ (simp c.saturating_add.ensures at c.if-lane.false),
    )
