-- Document 01's bench table, whole and in its order, as one fact about the definitions: `table` in proofs/BenchValues.antt.
use Rattle.std.specs.Prelude.{◌≡◌, true, false, pos, negsuc}
use Rattle.std.specs.Float.{nan, fin, binary64}
use Rattle.std.specs.Float.Ieee.{of_bits}
use Rattle.numbers.specs.Constants.{zero, half}
use Rattle.numbers.specs.Limits.{unit}
use Rattle.numbers.specs.Conversions.{round_u64}
use Rattle.numbers.specs.StandIns.{exp_m1}
use Rattle.timing.specs.declared.TimeUnit.TheVariants.{Milliseconds, Tempo}
use Rattle.timing.specs.Clock as Clock
use Rattle.timing.specs.Clock.{with_tempo, with_scale}
use Rattle.timing.specs.Samples.{samples}
use Rattle.curve.specs.Segments.{level}
use Rattle.settings.specs.declared.stages.Stage.TheVariants.{Attack, Decay, Sustain}
use Rattle.lane.specs.Planning.{spec, join_attack, advance}
use Rattle.lane.specs.Voices.{frame, frames}
use Rattle.lane.specs.Readings.{rest}
use Rattle.lane.specs.BenchVoices.{clock, settings, long, decaying, replanned, three_eighths, attacked}
use Rattle.rows.specs.Strides.{stride_of}

pub record BenchValues : Type 0 where
  -- unit(NaN) = unit(-0) = +0.
  pub unit_of_nan : unit nan ≡ zero
  pub unit_of_negative_zero : unit (fin true 0 (pos 0)) ≡ zero
  -- 0.49999999999999994 rounds to 0, 0.5 to 1.
  pub below_half : round_u64 (of_bits binary64 0x3fdf_ffff_ffff_ffff) ≡ 0
  pub at_half : round_u64 (of_bits binary64 0x3fe0_0000_0000_0000) ≡ 1
  -- At scale 1, 500 ms at rate 1 is 1 sample.
  pub milliseconds : samples (Clock.new (fin false 1 (pos 0))) (fin false 125 (pos 2)) Milliseconds ≡ 1
  -- One beat at tempo 0.5 and 48,000 is 2,880,000.
  pub beat : samples (with_tempo (Clock.new (fin false 375 (pos 7))) (fin false 1 (negsuc 0))) (fin false 1 (pos 0)) Tempo ≡ 2880000
  -- NaN scale, 0.
  pub nan_scale : samples (with_scale (Clock.new (fin false 375 (pos 7))) nan) (fin false 125 (pos 2)) Milliseconds ≡ 0
  -- E(0) = 0.
  pub exp_m1_of_zero : exp_m1 zero ≡ zero
  -- Count 16,385 has segments 16,384 and 1.
  pub first_segment : (long.lane.stage ≡ Attack) × (long.lane.seg_len ≡ 16384)
  pub second_segment : ((advance clock long.lane).lane.stage ≡ Attack) × ((advance clock long.lane).lane.seg_len ≡ 1)
  -- As many samples are left of each, and then the stage ends.
  pub segments_left :
      let second = frames 16384 clock long in
      (long.seg.left ≡ 16384) × ((second.lane.stage ≡ Attack) × (second.lane.seg_len ≡ 1) × (second.seg.left ≡ 1))
  pub after_segments : (frames 16385 clock long).lane.stage ≡ Sustain
  -- A straight attack of 4 from start 0, joined at 0.375, begins at 2.
  pub joined :
      let p = settings (fin false 1 (pos 2)) zero in
      (join_attack p three_eighths (spec p Attack clock three_eighths)).pos ≡ 2
  -- The voice that enters it there has 2 samples left, the curve's samples 2, which is 0.5, and 3; then its stage ends.
  pub joined_voice :
      let v = attacked three_eighths in
      (v.lane.stage ≡ Attack) × (v.lane.pos ≡ 2) × (v.seg.left ≡ 2)
  pub joined_levels :
      let v = attacked three_eighths in
      let whole = attacked zero in
      (level v.seg ≡ half) × (level v.seg ≡ level (frames 2 clock whole).seg) × (level (frame clock v).seg ≡ level (frames 3 clock whole).seg)
  pub after_joined : (frames 2 clock (attacked three_eighths)).lane.stage ≡ Sustain
  -- A decay of 4 replanned after 3 samples to 3 ends there, to 5 runs 2 more.
  pub before_replan : decaying.lane.stage ≡ Decay
  pub to_three : (replanned (fin false 3 (pos 0))).lane.stage ≡ Sustain
  pub to_five : ((replanned (fin false 5 (pos 0))).lane.stage ≡ Decay) × (rest (replanned (fin false 5 (pos 0))) ≡ 2)
  -- One sample was left of the decay of 4; that of 5 plays its 2, and then ends.
  pub decay_left : decaying.seg.left ≡ 1
  pub longer_ends :
      let v = replanned (fin false 5 (pos 0)) in
      ((frame clock v).lane.stage ≡ Decay) × ((frames 2 clock v).lane.stage ≡ Sustain)
  -- Strides of 0, 16, 17 voices: 16, 16, 32.
  pub strides : (stride_of 0 ≡ 16) × (stride_of 16 ≡ 16) × (stride_of 17 ≡ 32)
