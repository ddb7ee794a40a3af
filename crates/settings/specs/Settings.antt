-- mod.rs's settings of an initialised patch.
use Rattle.std.specs.Prelude.{false, Float}
use Rattle.std.proofs.Math.IntN as Int
use Rattle.std.specs.Float.{fin, binary32}
use Rattle.std.specs.Float.Ieee.{of_bits}
use Rattle.numbers.specs.Constants.{zero, half, one}
use Rattle.timing.specs.declared.TimeUnit.TheVariants.{Milliseconds}
use Rattle.settings.specs.declared.settings.EnvelopeParams.{EnvelopeParams}
use Rattle.settings.specs.declared.settings.StealRestart.TheVariants.{CurrentLevel, StartLevel}

-- 66.6 % as a binary32.
abbrev pub curve66 : Float
curve66 = of_bits binary32 0x3f2a_7efa

-- EnvelopeParams::AMP, number by number.
abbrev pub amp : EnvelopeParams
amp =
    record {
      unit = Milliseconds;
      delay = zero;
      attack = one;
      hold = zero;
      decay = fin false 125 (Int.pos 3);
      sustain = one;
      release = fin false 15 (Int.pos 0);
      attack_curve = half;
      decay_curve = curve66;
      release_curve = curve66;
      start = zero;
      end = zero;
      legato_inverted = false;
      steal_restart = CurrentLevel;
    }

-- EnvelopeParams::MODULATION: AMP but for the attack and the restart.
abbrev pub modulation : EnvelopeParams
modulation =
    record {
      unit = amp.unit;
      delay = amp.delay;
      attack = half;
      hold = amp.hold;
      decay = amp.decay;
      sustain = amp.sustain;
      release = amp.release;
      attack_curve = amp.attack_curve;
      decay_curve = amp.decay_curve;
      release_curve = amp.release_curve;
      start = amp.start;
      end = amp.end;
      legato_inverted = amp.legato_inverted;
      steal_restart = StartLevel;
    }
