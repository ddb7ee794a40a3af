-- `stepped`: u takes the recurrence's step, `left` is the one given, and all else stays.
use Rattle.lane.specs.Voices.{stepped}
use Rattle.lane.proofs.lanes.Voice.stepped.Goals as goal

pub returns : goal.returns
unfolding stepped
returns c = simp c.next_u-u.ensures
