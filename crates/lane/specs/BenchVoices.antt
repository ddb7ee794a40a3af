-- The voices that document 01's bench table speaks of.
use Rattle.std.specs.Prelude.{false, pos, negsuc, Float}
use Rattle.std.specs.Float.{fin}
use Rattle.numbers.specs.Constants.{zero, half}
use Rattle.timing.specs.declared.Timing.{Timing}
use Rattle.timing.specs.declared.TimeUnit.TheVariants.{Milliseconds}
use Rattle.timing.specs.Clock as Clock
use Rattle.settings.specs.declared.settings.EnvelopeParams.{EnvelopeParams}
use Rattle.settings.specs.declared.settings.StealRestart.TheVariants.{CurrentLevel}
use Rattle.settings.specs.declared.settings.Trigger.TheVariants.{New}
use Rattle.settings.specs.declared.stages.Stage.TheVariants.{Attack}
use Rattle.lane.specs.declared.lanes.Voice.{Voice}
use Rattle.lane.specs.Planning.{new, enter}
use Rattle.lane.specs.Voices.{trigger, set_params, frames}

-- A millisecond is a sample.
abbrev pub clock : Timing
clock = Clock.new (fin false 125 (pos 3))

-- Attack and decay in milliseconds; straight, from 0 up to 1 and down to half.
abbrev pub settings : Float → Float → EnvelopeParams
settings attack decay =
    record {
      unit = Milliseconds;
      delay = zero;
      attack = attack;
      hold = zero;
      decay = decay;
      sustain = half;
      release = zero;
      attack_curve = half;
      decay_curve = half;
      release_curve = half;
      start = zero;
      end = zero;
      legato_inverted = false;
      steal_restart = CurrentLevel;
    }

abbrev pub triggered : EnvelopeParams → Voice
triggered p = trigger clock New (new p)

-- An attack of 16,385 samples.
abbrev pub long : Voice
long = triggered (settings (fin false 16385 (pos 0)) zero)

-- Three samples into a decay of 4, and that decay with another time.
abbrev pub decaying : Voice
decaying = frames 3 clock (triggered (settings zero (fin false 1 (pos 2))))

abbrev pub replanned : Float → Voice
replanned decay = set_params clock (settings zero decay) decaying

-- 0.375.
abbrev pub three_eighths : Float
three_eighths = fin false 3 (negsuc 2)

-- An attack of 4, entered at a level.
abbrev pub attacked : Float → Voice
attacked level = enter (new (settings (fin false 1 (pos 2)) zero)).lane clock Attack level
