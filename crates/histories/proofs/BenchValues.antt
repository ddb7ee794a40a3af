-- Document 01's bench table, from the values that each crate computes of its own definitions.
use mathlib.Core.Path.{refl}
use Rattle.numbers.proofs.BenchValues as Numbers
use Rattle.timing.proofs.BenchValues as Timing
use Rattle.lane.proofs.BenchValues as Lane
use Rattle.histories.specs.BenchValues.{BenchValues}

pub table : BenchValues
table =
    record {
      unit_of_nan = (Numbers.table).0;
      unit_of_negative_zero = (Numbers.table).1;
      below_half = (Numbers.table).2;
      at_half = (Numbers.table).3;
      milliseconds = (Timing.table).0;
      beat = (Timing.table).1;
      nan_scale = (Timing.table).2;
      exp_m1_of_zero = (Numbers.table).4;
      first_segment = ((Lane.table).0, (Lane.table).1);
      second_segment = ((Lane.table).2, (Lane.table).3);
      segments_left = ((Lane.played).0, Lane.second_segment);
      after_segments = Lane.stage_ends;
      joined = (Lane.table).4;
      joined_voice = (Lane.played).3;
      joined_levels = (Lane.played).4;
      after_joined = (Lane.played).5;
      before_replan = (Lane.table).5;
      to_three = (Lane.table).6;
      to_five = ((Lane.table).7, (Lane.table).8);
      decay_left = (Lane.played).6;
      longer_ends = (Lane.played).7;
      strides = (refl, refl, refl);
    }
