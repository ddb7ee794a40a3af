-- The stages after a trigger that starts them over.
use Rattle.std.specs.Prelude.{ℕ, ◌+◌, cond, ltb}
use Rattle.settings.specs.declared.stages.Stage.{Stage}
use Rattle.settings.specs.declared.stages.Stage.TheVariants.{Delay, Attack, Hold, Decay, Sustain}

-- The stage k frames after such a trigger, whose delay, attack, hold and decay last d, a, h and c samples.
unfoldable pub scheduled : ℕ → ℕ → ℕ → ℕ → ℕ → Stage
scheduled d a h c k =
    cond (ltb k d) Delay
    (cond (ltb k (d + a)) Attack
    (cond (ltb k (d + a + h)) Hold
    (cond (ltb k (d + a + h + c)) Decay Sustain)))
