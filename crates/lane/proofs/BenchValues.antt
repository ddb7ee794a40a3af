-- Document 01's bench values of the voice. They compute, but for the 16,384 frames of a first segment: those are one `advance` (`frames_end`).
use mathlib.Core.Path.{◌≡◌, refl, ap, subst, ◌∙◌}
use Prim.Native.Nat.{ℕ, ◌≤◌, ◌<◌}
use lib.Dec.{lit≤}
use mathlib.Core.Bool.{false}
use lib.IntN.{pos}
use lib.Ieee.{fin, round, neg, add, sub, mul, div, lt, le, eq, is_nan, of_bits, of_int}
use Rattle.numbers.specs.Constants.{zero, half}
use Rattle.numbers.specs.Limits.{unit, clamp, max}
use Rattle.numbers.specs.Conversions.{narrow, round_u64}
use Rattle.timing.specs.Samples.{seconds, product, samples}
use Rattle.curve.specs.Segments.{untimed, level}
use Rattle.curve.specs.Curves.{bend, progress, time_at, at, is_straight, straight, bent, segment}
use Rattle.settings.specs.declared.stages.Stage.TheVariants.{Attack, Decay, Sustain}
use Rattle.lane.specs.declared.lanes.Voice.{Voice}
use Rattle.lane.specs.Planning.{new, spec, same, join, join_attack, start_segment, find, find_from, begin_untimed, begin, settle, enter, past_segment, advance}
use Rattle.lane.specs.Voices.{leaves_alone, note_level, trigger, elapsed, replan, with_params, set_params, stepped, frame, frames}
use Rattle.lane.specs.Readings.{rest}
use Rattle.lane.specs.BenchVoices.{clock, settings, long, decaying, replanned, three_eighths, attacked}
use Rattle.lane.proofs.Frames.{frames-add, frames_end}

-- Count 16,385 has segments 16,384 and 1; a straight attack of 4 from start 0, joined at 0.375, begins at 2; a decay of 4, replanned after 3 samples
-- to 3, ends there, and to 5 runs 2 more.
pub table :
    let l = long.lane in
    let p = settings (fin false 1 (pos 2)) zero in
    let shorter = replanned (fin false 3 (pos 0)) in
    let longer = replanned (fin false 5 (pos 0)) in
    (l.stage ≡ Attack) × (l.seg_len ≡ 16384) × ((advance clock l).lane.stage ≡ Attack) × ((advance clock l).lane.seg_len ≡ 1)
    × ((join_attack p three_eighths (spec p Attack clock three_eighths)).pos ≡ 2)
    × (decaying.lane.stage ≡ Decay) × (shorter.lane.stage ≡ Sustain) × (longer.lane.stage ≡ Decay) × (rest longer ≡ 2)
unfolding new trigger leaves_alone note_level enter find find_from settle begin begin_untimed start_segment spec join join_attack advance past_segment samples product seconds max clamp unit is_nan bend time_at lt le eq add sub mul div round round_u64 of_bits of_int frame stepped set_params with_params replan elapsed same rest segment straight bent at progress level is_straight narrow neg
table = (refl, refl, refl, refl, refl, refl, refl, refl, refl)

-- The same voices played on: what is left of the long attack's segments, and what follows them; an attack joined at 0.375 beside the whole one; and
-- the decay of 4, and of 5, to their ends.
pub played :
    let second = advance clock long.lane in
    let joined = attacked three_eighths in
    let whole = attacked zero in
    let longer = replanned (fin false 5 (pos 0)) in
    (long.seg.left ≡ 16384)
    × ((second.lane.stage ≡ Attack) × (second.lane.seg_len ≡ 1) × (second.seg.left ≡ 1))
    × ((frame clock second).lane.stage ≡ Sustain)
    × ((joined.lane.stage ≡ Attack) × (joined.lane.pos ≡ 2) × (joined.seg.left ≡ 2))
    × ((level joined.seg ≡ half) × (level joined.seg ≡ level (frames 2 clock whole).seg) × (level (frame clock joined).seg ≡ level (frames 3 clock whole).seg))
    × ((frames 2 clock joined).lane.stage ≡ Sustain)
    × (decaying.seg.left ≡ 1)
    × (((frame clock longer).lane.stage ≡ Decay) × ((frames 2 clock longer).lane.stage ≡ Sustain))
unfolding new trigger leaves_alone note_level enter find find_from settle begin begin_untimed start_segment spec join join_attack advance past_segment samples product seconds max clamp unit is_nan bend time_at lt le eq add sub mul div round round_u64 of_bits of_int frame stepped set_params with_params replan elapsed same rest segment straight bent at progress level is_straight narrow neg
played = (refl, (refl, refl, refl), refl, (refl, refl, refl), (refl, refl, refl), refl, refl, (refl, refl))

segment_ends : (n : ℕ) (v : Voice) → v.seg.left ≡ n → 1 ≤ n → n < untimed → frames n clock v ≡ advance clock v.lane
segment_ends n v e a b = subst (λ (n : ℕ). 1 ≤ n → n < untimed → frames n clock v ≡ advance clock v.lane) e (frames_end clock v) a b

first_ends : frames 16384 clock long ≡ advance clock long.lane
first_ends = segment_ends 16384 long played.0 (lit≤ tt) (lit≤ tt)

-- The second segment, reached by frames, and the stage that one more ends.
pub second_segment :
    let second = frames 16384 clock long in
    (second.lane.stage ≡ Attack) × (second.lane.seg_len ≡ 1) × (second.seg.left ≡ 1)
second_segment = rw first_ends played.1

pub stage_ends : (frames 16385 clock long).lane.stage ≡ Sustain
stage_ends =
    ap (λ (v : Voice). v.lane.stage) (frames-add clock 16384 1 long) ∙ ap (λ (v : Voice). (frame clock v).lane.stage) first_ends ∙ played.2
