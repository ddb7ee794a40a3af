-- The calls of one voice, as lane.rs has them, and one frame.
use Rattle.std.specs.Prelude.{ℕ, zero, suc, ◌+◌, ◌-◌, Bool, false, cond, not, ◌&&◌, leb, eqb, Float}
use Rattle.numbers.specs.Constants as Constants
use Rattle.numbers.specs.Limits.{unit}
use Rattle.numbers.specs.Counts.{saturated}
use Rattle.timing.specs.declared.Timing.{Timing}
use Rattle.curve.specs.declared.segments.Segment.{Segment}
use Rattle.curve.specs.Segments.{level, next_u, untimed}
use Rattle.settings.specs.declared.settings.EnvelopeParams.{EnvelopeParams}
use Rattle.settings.specs.declared.settings.StealRestart.{StealRestart}
use Rattle.settings.specs.declared.settings.StealRestart.TheVariants.{CurrentLevel, StartLevel}
use Rattle.settings.specs.declared.settings.Trigger.{Trigger}
use Rattle.settings.specs.declared.settings.Trigger.TheVariants.{New, Retrigger, Legato}
use Rattle.settings.specs.declared.stages.Stage.TheVariants.{Idle, Delay, Release}
use Rattle.lane.specs.declared.lanes.Voice.{Voice}
use Rattle.settings.specs.Stages.{next, is_untimed, is_idle, ignores_release}
use Rattle.lane.specs.Planning.{spec, same, begin_untimed, begin, enter, advance}

-- Whether a trigger leaves the running envelope alone: a legato note on a sounding voice that is not legato-inverted.
unfoldable pub leaves_alone : Trigger → Voice → Bool
leaves_alone New v = false
leaves_alone Retrigger v = false
leaves_alone Legato v = not (is_idle v.lane.stage) && not v.lane.params.legato_inverted

-- Where a voice that was sounding restarts: at the level that it has, or at its start level.
unfoldable pub restarted : StealRestart → Float → Float → Float
restarted CurrentLevel now start = now
restarted StartLevel now start = start

-- Where a voice restarts on a note that is not new.
unfoldable pub restart_level : Voice → Float
restart_level v =
    let start = unit v.lane.params.start in
    cond (is_idle v.lane.stage) start (restarted v.lane.params.steal_restart (level v.seg) start)

-- The level at which a trigger begins its delay.
unfoldable pub note_level : Trigger → Voice → Float
note_level New v = unit v.lane.params.start
note_level Retrigger v = restart_level v
note_level Legato v = restart_level v

-- A note starts.
unfoldable pub trigger : Timing → Trigger → Voice → Voice
trigger t x v = cond (leaves_alone x v) v (enter v.lane t Delay (note_level x v))

-- The note's end: Release begins at the level that the voice has, if it is not in Release or Idle.
unfoldable pub release : Timing → Voice → Voice
release t v = cond (ignores_release v.lane.stage) v (enter v.lane t Release (level v.seg))

-- Idle, with no release before it. The level that is entered with is not read: Idle has the end level.
unfoldable pub reset : Timing → Voice → Voice
reset t v = enter v.lane t Idle Constants.zero

-- How many samples of the present stage have passed.
unfoldable pub elapsed : Voice → ℕ
elapsed v = saturated (saturated ((v.lane.spec.total - v.lane.curve_total) + v.lane.pos) + (v.lane.seg_len - v.seg.left))

-- After other settings or another timing. If the present stage has the count, target and bend that it had, nothing is changed. Else an untimed stage
-- has its new level; a timed one is followed by the next if its new count has passed, and otherwise has a curve for the rest of it, from the level that
-- the voice has. A delay is compared with the level that it stays at (`l.to`), so another start level does not change it.
unfoldable pub replan : Timing → Voice → Voice
replan t v =
    let l = v.lane in
    let sp = spec l.params l.stage t l.to in
    cond (same sp l.spec) v
    (cond (is_untimed l.stage) (begin_untimed l l.stage sp)
    (cond (leb sp.total (elapsed v)) (enter l t (next l.stage) sp.to)
    (begin l l.stage sp (level v.seg) (sp.total - elapsed v) 0)))

-- The voice with other settings, and nothing else changed.
unfoldable pub with_params : EnvelopeParams → Voice → Voice
with_params p v =
    let l = v.lane in
    record {
      lane =
          record {
            params = p;
            stage = l.stage;
            spec = l.spec;
            from = l.from;
            to = l.to;
            k = l.k;
            curve_total = l.curve_total;
            pos = l.pos;
            seg_len = l.seg_len;
          };
      seg = v.seg;
    }

-- The new numbers are kept, then `replan`.
unfoldable pub set_params : Timing → EnvelopeParams → Voice → Voice
set_params t p v = replan t (with_params p v)

-- A segment one sample on, with `left` left.
unfoldable pub stepped : Segment → ℕ → Segment
stepped g left = record { u = next_u g.u g.r g.d; r = g.r; d = g.d; scale = g.scale; base = g.base; left = left }

-- One frame passes: u steps; a timed left falls by 1; at 0 the stage's next segment follows, or the next stage that has samples left or is untimed.
unfoldable pub frame : Timing → Voice → Voice
frame t v =
    let left = v.seg.left in
    cond (eqb left untimed) (record { lane = v.lane; seg = stepped v.seg left })
    (cond (eqb (left - 1) 0) (advance t v.lane) (record { lane = v.lane; seg = stepped v.seg (left - 1) }))

-- n frames pass.
abbrev pub frames : ℕ → Timing → Voice → Voice
frames zero t v = v
frames (suc n) t v = frames n t (frame t v)
