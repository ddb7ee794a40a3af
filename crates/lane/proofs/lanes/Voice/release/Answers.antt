-- `release`: a voice that was released is returned as it is; any other enters Release at its level.
use Rattle.lane.specs.Voices.{release}
use Rattle.lane.proofs.lanes.Voice.release.Goals as goal

pub returns-then-ignores_release : goal.returns-then-ignores_release
unfolding release
returns-then-ignores_release c = simp (simp c.ignores_release.ensures at c.if-ignores_release.true)

pub returns : goal.returns
unfolding release
returns c =
    simp (c.enter.ensures, c.level.ensures, simp c.ignores_release.ensures at c.if-ignores_release.false)
