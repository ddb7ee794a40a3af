-- `enter`: the stage that `find` ensures is begun, untimed or timed, by the same test as in the definition.
use Rattle.lane.specs.Planning.{enter, settle}
use Rattle.lane.proofs.lanes.Lane.enter.Goals as goal

pub returns-then-is_untimed : goal.returns-then-is_untimed
unfolding enter settle
returns-then-is_untimed c =
    simp (c.begin_untimed.ensures, simp (c.is_untimed.ensures, c.find-found.ensures) at c.if-is_untimed.true, c.find-found.ensures)

pub returns : goal.returns
unfolding enter settle
returns c =
    simp (c.begin.ensures, simp (c.is_untimed.ensures, c.find-found.ensures) at c.if-is_untimed.false, c.find-found.ensures)
