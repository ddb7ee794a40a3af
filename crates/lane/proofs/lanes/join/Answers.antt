-- `join`: an attack is what `join_attack` ensures; each other stage has a clause of its own in the definition, and all of them say the same (`other`,
-- by cases).
use mathlib.Core.Path.{◌≡◌, refl}
use lib.Ieee.{Float}
use Rattle.settings.specs.declared.settings.EnvelopeParams.{EnvelopeParams}
use Rattle.settings.specs.declared.stages.Stage.{Stage}
use Rattle.settings.specs.declared.stages.Stage.TheVariants.{Idle, Delay, Attack, Hold, Decay, Sustain, Release}
use Rattle.lane.specs.declared.lanes.Spec.{Spec}
use Rattle.lane.specs.Planning.{join}
use Rattle.lane.proofs.lanes.join.Goals as goal

other : (p : EnvelopeParams) (s : Stage) (level : Float) (sp : Spec) → (s ≡ Attack → ⊥) → record { from = level; pos = 0 } ≡ join p s level sp
unfolding join
other p Attack level sp h = absurd (h refl)
other p Idle level sp h = refl
other p Delay level sp h = refl
other p Hold level sp h = refl
other p Decay level sp h = refl
other p Sustain level sp h = refl
other p Release level sp h = refl

pub returns-in-Attack : goal.returns-in-Attack
unfolding join
returns-in-Attack c = simp (c.join_attack.ensures, c.in-Attack.is)

pub returns-in_default : goal.returns-in_default
returns-in_default c = other _ _ _ _ c.in_default.not-Attack
