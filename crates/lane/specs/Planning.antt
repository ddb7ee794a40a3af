-- Planning, as lane.rs has it: what a stage is by the settings, where an attack joins its curve, entering a stage, and what follows a segment.
use Rattle.std.specs.Prelude.{ℕ, zero, suc, ◌+◌, ◌-◌, min, Bool, cond, ◌&&◌, ◌||◌, ltb, eqb, Float}
use Rattle.std.specs.Float.{binary32}
use Rattle.std.specs.Float.Ieee.{sub, div, lt, le, eq}
use Rattle.numbers.specs.Constants as Constants
use Rattle.numbers.specs.Constants.{one}
use Rattle.numbers.specs.Rounded.{◌⊗◌}
use Rattle.numbers.specs.Limits.{unit}
use Rattle.numbers.specs.Conversions.{round_u64}
use Rattle.numbers.specs.Counts.{saturated}
use Rattle.numbers.specs.StandIns.{whole}
use Rattle.timing.specs.declared.Timing.{Timing}
use Rattle.timing.specs.Samples.{samples}
use Rattle.curve.specs.Segments.{constant, untimed}
use Rattle.curve.specs.Curves.{bend, time_at, segment, max_segment}
use Rattle.settings.specs.declared.settings.EnvelopeParams.{EnvelopeParams}
use Rattle.settings.specs.declared.stages.Stage.{Stage}
use Rattle.settings.specs.declared.stages.Stage.TheVariants.{Idle, Delay, Attack, Hold, Decay, Sustain, Release}
use Rattle.lane.specs.declared.lanes.Spec.{Spec}
use Rattle.lane.specs.declared.lanes.Lane.{Lane}
use Rattle.lane.specs.declared.lanes.Voice.{Voice}
use Rattle.lane.specs.declared.lanes.Joined.{Joined}
use Rattle.lane.specs.declared.lanes.Entered.{Entered}
use Rattle.settings.specs.Stages.{next, is_untimed, timed_stages}

-- Lane::new: an idle envelope with these settings, and the segment that it draws.
unfoldable pub new : EnvelopeParams → Voice
new p =
    let end = unit p.end in
    record {
      lane =
          record {
            params = p;
            stage = Idle;
            spec = record { total = 0; to = end; k = Constants.zero };
            from = end;
            to = end;
            k = Constants.zero;
            curve_total = 0;
            pos = 0;
            seg_len = 0;
          };
      seg = constant end untimed;
    }

-- A stage by the settings: its count, target and bend. `level` is where a delay stays.
unfoldable pub spec : EnvelopeParams → Stage → Timing → Float → Spec
spec p Idle t level = record { total = 0; to = unit p.end; k = Constants.zero }
spec p Delay t level = record { total = samples t p.delay p.unit; to = level; k = Constants.zero }
spec p Attack t level = record { total = samples t p.attack p.unit; to = one; k = bend p.attack_curve }
spec p Hold t level = record { total = samples t p.hold p.unit; to = one; k = Constants.zero }
spec p Decay t level = record { total = samples t p.decay p.unit; to = unit p.sustain; k = bend p.decay_curve }
spec p Sustain t level = record { total = 0; to = unit p.sustain; k = Constants.zero }
spec p Release t level = record { total = samples t p.release p.unit; to = unit p.end; k = bend p.release_curve }

-- Rust's == of two specs: the numbers compared as IEEE 754 compares them.
unfoldable pub same : Spec → Spec → Bool
same a b = eqb a.total b.total && eq a.to b.to && eq a.k b.k

-- Where an attack that begins at a level joins its curve: the curve's start level, and its place, which document 01 defines as the sample of the
-- curve, from 0, that it begins with. Below the start level, or where that is 1, the curve begins at the level itself, and none of it is left out.
unfoldable pub join_attack : EnvelopeParams → Float → Spec → Joined
join_attack p level sp =
    let start = unit p.start in
    let x = time_at sp.k (div binary32 (sub binary32 level start) (sub binary32 one start)) in
    cond (le one start || lt level start) (record { from = level; pos = 0 })
    (cond (le one level) (record { from = level; pos = sp.total })
    (record { from = start; pos = round_u64 (x ⊗ whole sp.total) }))

-- How a stage begins at a level: only an attack can begin inside its curve.
unfoldable pub join : EnvelopeParams → Stage → Float → Spec → Joined
join p Idle level sp = record { from = level; pos = 0 }
join p Delay level sp = record { from = level; pos = 0 }
join p Attack level sp = join_attack p level sp
join p Hold level sp = record { from = level; pos = 0 }
join p Decay level sp = record { from = level; pos = 0 }
join p Sustain level sp = record { from = level; pos = 0 }
join p Release level sp = record { from = level; pos = 0 }

-- The part of the curve from pos on that is drawn next: at most 16,384 samples.
unfoldable pub start_segment : Lane → Voice
start_segment l =
    let len = min (l.curve_total - l.pos) max_segment in
    record {
      lane =
          record {
            params = l.params;
            stage = l.stage;
            spec = l.spec;
            from = l.from;
            to = l.to;
            k = l.k;
            curve_total = l.curve_total;
            pos = l.pos;
            seg_len = len;
          };
      seg = segment l.from l.to l.k l.curve_total l.pos len;
    }

-- The stage that is found, from s on: an untimed one, or one that has samples left from its place on. n stages may be skipped.
unfoldable pub find_from : ℕ → EnvelopeParams → Timing → Stage → Float → Entered
find_from zero p t s level = let sp = spec p s t level in record { stage = s; spec = sp; joined = record { from = sp.to; pos = 0 } }
find_from (suc n) p t s level =
    let sp = spec p s t level in
    let j = join p s level sp in
    cond (ltb j.pos sp.total) (record { stage = s; spec = sp; joined = j }) (find_from n p t (next s) sp.to)

unfoldable pub find : EnvelopeParams → Timing → Stage → Float → Entered
find p t s level = find_from (timed_stages s) p t s level

-- An untimed stage. The plan of the last curve stays as it was; nothing reads it.
unfoldable pub begin_untimed : Lane → Stage → Spec → Voice
begin_untimed l s sp =
    record {
      lane =
          record {
            params = l.params;
            stage = s;
            spec = sp;
            from = sp.to;
            to = sp.to;
            k = l.k;
            curve_total = l.curve_total;
            pos = l.pos;
            seg_len = l.seg_len;
          };
      seg = constant sp.to untimed;
    }

-- A stage that takes time: the curve from `from` to its target over `total` samples, begun at pos.
unfoldable pub begin : Lane → Stage → Spec → Float → ℕ → ℕ → Voice
begin l s sp from total pos =
    start_segment
    (record {
      params = l.params;
      stage = s;
      spec = sp;
      from = from;
      to = sp.to;
      k = sp.k;
      curve_total = total;
      pos = pos;
      seg_len = l.seg_len;
    })

unfoldable pub settle : Lane → Entered → Voice
settle l x =
    cond (is_untimed x.stage) (begin_untimed l x.stage x.spec)
    (begin l x.stage x.spec x.joined.from x.spec.total x.joined.pos)

-- Starts a stage at a level. Document 01: 'Entering a stage repeats until it finds one that takes time or holds, and hands that one out.'
unfoldable pub enter : Lane → Timing → Stage → Float → Voice
enter l t s level = settle l (find l.params t s level)

-- The plan with its place moved past the present segment.
unfoldable pub past_segment : Lane → Lane
past_segment l =
    record {
      params = l.params;
      stage = l.stage;
      spec = l.spec;
      from = l.from;
      to = l.to;
      k = l.k;
      curve_total = l.curve_total;
      pos = saturated (l.pos + l.seg_len);
      seg_len = l.seg_len;
    }

-- A segment has ended: the curve's next one follows, or the next stage.
unfoldable pub advance : Timing → Lane → Voice
advance t l =
    let m = past_segment l in
    cond (ltb m.pos m.curve_total) (start_segment m) (enter m t (next m.stage) m.to)
