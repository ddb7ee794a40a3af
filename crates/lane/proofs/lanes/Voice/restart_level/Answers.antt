-- `restart_level`: by cases on the setting and on whether the voice sounds, the level that it has, or else the start level (`starts`).
use mathlib.Core.Path.{◌≡◌, refl, ◌∙◌}
use mathlib.Core.Bool.{Bool, true, false, cond}
use lib.Ieee.{Float}
use Rattle.settings.specs.declared.settings.StealRestart.{StealRestart}
use Rattle.settings.specs.declared.settings.StealRestart.TheVariants.{CurrentLevel, StartLevel}
use Rattle.lane.specs.Voices.{restart_level, restarted}
use Rattle.lane.proofs.lanes.Voice.restart_level.Goals as goal
use Rattle.lane.proofs.lanes.Voice.restart_level.Goals.{in_default-via-in-CurrentLevel+else-not-is_idle, in_default-via-in_default}

starts : (idle : Bool) (r : StealRestart) (now start : Float) → (r ≡ CurrentLevel → ⊥) → start ≡ cond idle start (restarted r now start)
unfolding restarted
starts idle CurrentLevel now start h = absurd (h refl)
starts true StartLevel now start h = refl
starts false StartLevel now start h = refl

pub returns-in-CurrentLevel : goal.returns-in-CurrentLevel
unfolding restart_level restarted
returns-in-CurrentLevel c = simp (c.level.ensures, simp c.is_idle.ensures at c.if-not-is_idle.true, c.in-CurrentLevel.is)

pub returns-in_default : goal.returns-in_default
unfolding restart_level
returns-in_default c =
    elim c.in_default.branch [
      | in_default-via-in-CurrentLevel+else-not-is_idle w ↦ simp (c.unit.ensures, simp w.is_idle.ensures at w.if-not-is_idle.false)
      | in_default-via-in_default w ↦ c.unit.ensures ∙ starts _ _ _ _ w.in_default.not-CurrentLevel
    ]
