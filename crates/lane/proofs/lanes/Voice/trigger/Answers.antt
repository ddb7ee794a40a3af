-- `trigger`: a trigger that leaves the voice alone returns it; any other enters Delay at the note's level.
use Rattle.lane.specs.Voices.{trigger}
use Rattle.lane.proofs.lanes.Voice.trigger.Goals as goal

pub returns-then-leaves_alone : goal.returns-then-leaves_alone
unfolding trigger
returns-then-leaves_alone c = simp (simp c.leaves_alone.ensures at c.if-leaves_alone.true)

pub returns : goal.returns
unfolding trigger
returns c =
    simp (c.enter.ensures, c.note_level-level.ensures, simp c.leaves_alone.ensures at c.if-leaves_alone.false)
