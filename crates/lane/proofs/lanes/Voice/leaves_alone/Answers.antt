-- `leaves_alone`: a case for each trigger, and for a legato one whether the voice is idle.
use mathlib.Core.Logic.{inl, inr}
use Rattle.lane.specs.Voices.{leaves_alone}
use Rattle.lane.proofs.lanes.Voice.leaves_alone.Goals as goal

pub returns-in-New : goal.returns-in-New
unfolding leaves_alone
returns-in-New c = elim c.in-New.is [ inl e ↦ simp e | inr e ↦ simp e ]

pub returns-then-not-is_idle : goal.returns-then-not-is_idle
unfolding leaves_alone
returns-then-not-is_idle c = simp (simp c.is_idle.ensures at c.if-not-is_idle.true, c.in-Legato.is)

pub returns-else-not-is_idle : goal.returns-else-not-is_idle
unfolding leaves_alone
returns-else-not-is_idle c = simp (c.is_idle.ensures, simp c.is_idle.ensures at c.if-not-is_idle.false, c.in-Legato.is)
