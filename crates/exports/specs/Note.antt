-- The note that C asks for by plain numbers.
use Rattle.std.specs.Prelude.{Float}
use Rattle.settings.specs.declared.settings.EnvelopeParams.{EnvelopeParams}
use Rattle.settings.specs.Settings.{amp}

-- AMP with another attack, decay and sustain.
abbrev pub settings : Float → Float → Float → EnvelopeParams
settings attack decay sustain =
    record {
      unit = amp.unit;
      delay = amp.delay;
      attack = attack;
      hold = amp.hold;
      decay = decay;
      sustain = sustain;
      release = amp.release;
      attack_curve = amp.attack_curve;
      decay_curve = amp.decay_curve;
      release_curve = amp.release_curve;
      start = amp.start;
      end = amp.end;
      legato_inverted = amp.legato_inverted;
      steal_restart = amp.steal_restart;
    }
