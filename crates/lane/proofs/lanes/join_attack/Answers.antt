-- `join_attack`: two early returns and the place on the curve, each under the tests that the definition makes in the same order.
use lib.Ieee.{of_bits}
use Rattle.lane.specs.Planning.{join_attack}
use Rattle.lane.proofs.lanes.join_attack.Goals as goal
use Rattle.lane.proofs.lanes.join_attack.Goals.{then-start-via-then-start, then-start-via-else-start+then-level-start}

pub returns-then-start : goal.returns-then-start
unfolding join_attack of_bits
returns-then-start c =
    elim c.then-start.branch [
      | then-start-via-then-start w ↦ simp (simp c.unit-start.ensures at w.if-start.true)
      | then-start-via-else-start+then-level-start w ↦
          simp (simp c.unit-start.ensures at w.if-start.false, simp c.unit-start.ensures at w.if-level-start.true)
    ]

pub returns-then-level : goal.returns-then-level
unfolding join_attack of_bits
returns-then-level c =
    simp (simp c.unit-start.ensures at c.if-start.false, simp c.unit-start.ensures at c.if-level-start.false, c.if-level.true)

pub returns : goal.returns
unfolding join_attack of_bits
returns c =
    simp (
      c.round_to_u64.ensures,
      c.of_u64.ensures,
      c.time_at-x.ensures,
      c.widen.ensures,
      c.unit-start.ensures,
      simp c.unit-start.ensures at c.if-start.false,
      simp c.unit-start.ensures at c.if-level-start.false,
      c.if-level.false,
    )
