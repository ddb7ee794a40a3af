-- `note_level`: an arm for each trigger, by what `unit` and `restart_level` ensure.
use mathlib.Core.Logic.{inl, inr}
use Rattle.lane.specs.Voices.{note_level}
use Rattle.lane.proofs.lanes.Voice.note_level.Goals as goal

pub returns-in-New : goal.returns-in-New
unfolding note_level
returns-in-New c = simp (c.unit.ensures, c.in-New.is)

pub returns-in-Retrigger : goal.returns-in-Retrigger
unfolding note_level
returns-in-Retrigger c = elim c.in-Retrigger.is [ inl e ↦ simp (c.restart_level.ensures, e) | inr e ↦ simp (c.restart_level.ensures, e) ]
