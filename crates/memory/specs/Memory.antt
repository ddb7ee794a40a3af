-- Where each number of a bank lies in its four arrays, and what storing a voice leaves.
use Rattle.std.specs.Prelude.{Bool, true, false, cond, List, [], ◌∷◌, ◌≢◌, ◌≡◌, ℕ, ◌+◌, ◌*◌, ◌≤◌, ◌<◌, min, eqb, ltb, Float, length, get_or}
use Rattle.std.specs.Float.{nan}
use Rattle.timing.specs.declared.Timing.{Timing}
use Rattle.timing.specs.declared.TimeUnit.{TimeUnit}
use Rattle.timing.specs.declared.TimeUnit.TheVariants.{Milliseconds, Tempo}
use Rattle.settings.specs.declared.settings.EnvelopeParams.{EnvelopeParams}
use Rattle.settings.specs.declared.settings.StealRestart.{StealRestart}
use Rattle.settings.specs.declared.settings.StealRestart.TheVariants.{CurrentLevel, StartLevel}
use Rattle.settings.specs.declared.stages.Stage.{Stage}
use Rattle.settings.specs.declared.stages.Stage.TheVariants.{Idle, Delay, Attack, Hold, Decay, Sustain, Release}
use Rattle.settings.specs.Settings.{amp}
use Rattle.curve.specs.declared.segments.Segment.{Segment}
use Rattle.lane.specs.declared.lanes.Spec.{Spec}
use Rattle.lane.specs.declared.lanes.Lane.{Lane}
use Rattle.lane.specs.declared.lanes.Voice.{Voice}
use Rattle.lane.specs.Planning as Planning
use Rattle.memory.specs.declared.arrays.Arrays.{Arrays}
use Rattle.memory.specs.Spaced.{spaced}

-- The most voices that a bank has.
abbrev pub max_voices : ℕ
max_voices = 64

-- The lanes of a column: one for each voice, and four more.
abbrev pub lanes : ℕ
lanes = 68

-- The arrays' lengths.
abbrev pub floats_length : ℕ
floats_length = 1236

abbrev pub bends_length : ℕ
bends_length = 131

abbrev pub counts_length : ℕ
counts_length = 192

abbrev pub codes_length : ℕ
codes_length = 389

-- ---- codes: a number that is none of them is the first case, or the second where there are two

abbrev pub unit_of : ℕ → TimeUnit
unit_of n = cond (eqb n 0) Milliseconds Tempo

abbrev pub unit_code : TimeUnit → ℕ
unit_code Milliseconds = 0
unit_code Tempo = 1

abbrev pub restart_of : ℕ → StealRestart
restart_of n = cond (eqb n 0) CurrentLevel StartLevel

abbrev pub restart_code : StealRestart → ℕ
restart_code CurrentLevel = 0
restart_code StartLevel = 1

abbrev pub flag_of : ℕ → Bool
flag_of n = cond (eqb n 0) false true

abbrev pub flag_code : Bool → ℕ
flag_code false = 0
flag_code true = 1

abbrev pub stage_of : ℕ → Stage
stage_of n =
    cond (eqb n 1) Delay (cond (eqb n 2) Attack (cond (eqb n 3) Hold (cond (eqb n 4) Decay (cond (eqb n 5) Sustain (cond (eqb n 6) Release Idle)))))

abbrev pub stage_code : Stage → ℕ
stage_code Idle = 0
stage_code Delay = 1
stage_code Attack = 2
stage_code Hold = 3
stage_code Decay = 4
stage_code Sustain = 5
stage_code Release = 6

-- ---- places

-- The five columns of floats: u, r, d, scale and base of lane v. What it has left is in a column of codes.
abbrev pub u_at : List Float → ℕ → Float
u_at f v = get_or f v nan

abbrev pub r_at : List Float → ℕ → Float
r_at f v = get_or f (v + 68) nan

abbrev pub d_at : List Float → ℕ → Float
d_at f v = get_or f (v + 136) nan

abbrev pub scale_at : List Float → ℕ → Float
scale_at f v = get_or f (v + 204) nan

abbrev pub base_at : List Float → ℕ → Float
base_at f v = get_or f (v + 272) nan

abbrev pub left_at : List ℕ → ℕ → ℕ
left_at c v = get_or c v 0

-- The same five as a list.
abbrev pub columns_at : List Float → ℕ → List Float
columns_at f v = spaced nan 68 f v 5

-- Past the columns, a record a voice: 14 floats, 2 bends, 3 counts, 5 codes.
abbrev pub floats_at : List Float → ℕ → List Float
floats_at f v = spaced nan 1 f (340 + 14 * v) 14

abbrev pub bends_at : List Float → ℕ → List Float
bends_at k v = spaced nan 1 k (3 + 2 * v) 2

abbrev pub counts_at : List ℕ → ℕ → List ℕ
counts_at n v = spaced 0 1 n (3 * v) 3

abbrev pub codes_at : List ℕ → ℕ → List ℕ
codes_at c v = spaced 0 1 c (69 + 5 * v) 5

-- What is stored for all voices: how many they are, and the timing.
abbrev pub voices_at : List ℕ → ℕ
voices_at c = get_or c 68 0

abbrev pub timing_at : List Float → Timing
timing_at k = record { sample_rate = get_or k 0 nan; tempo = get_or k 1 nan; scale = get_or k 2 nan }

-- How many voices it has: no more than there is room for, whatever its number says.
abbrev pub count_of : List ℕ → ℕ
count_of c = min (voices_at c) max_voices

-- The representation invariant: the arrays are as long as their types say. Nothing else is asked of their content.
pub record Sized (m : Arrays) : Type 0 where
  pub floats : length m.floats ≡ floats_length
  pub bends : length m.bends ≡ bends_length
  pub counts : length m.counts ≡ counts_length
  pub codes : length m.codes ≡ codes_length

-- ---- a voice

-- Its settings, of the floats of a record and three codes.
abbrev pub params_of : List Float → TimeUnit → Bool → StealRestart → EnvelopeParams
params_of fs unit inverted restart =
    record {
      unit = unit;
      delay = get_or fs 0 nan;
      attack = get_or fs 1 nan;
      hold = get_or fs 2 nan;
      decay = get_or fs 3 nan;
      sustain = get_or fs 4 nan;
      release = get_or fs 5 nan;
      attack_curve = get_or fs 6 nan;
      decay_curve = get_or fs 7 nan;
      release_curve = get_or fs 8 nan;
      start = get_or fs 9 nan;
      end = get_or fs 10 nan;
      legato_inverted = inverted;
      steal_restart = restart;
    }

-- Its plan, of the record.
abbrev pub lane_of : List Float → List Float → List ℕ → List ℕ → EnvelopeParams → Stage → Lane
lane_of fs ks ns cs params stage =
    record {
      params = params;
      stage = stage;
      spec = record { total = get_or ns 0 0; to = get_or fs 11 nan; k = get_or ks 0 nan };
      from = get_or fs 12 nan;
      to = get_or fs 13 nan;
      k = get_or ks 1 nan;
      curve_total = get_or ns 1 0;
      pos = get_or ns 2 0;
      seg_len = get_or cs 0 0;
    }

-- Its segment, of the columns.
abbrev pub segment_of : List Float → ℕ → Segment
segment_of ss left = record { u = get_or ss 0 nan; r = get_or ss 1 nan; d = get_or ss 2 nan; scale = get_or ss 3 nan; base = get_or ss 4 nan; left = left }

abbrev pub voice_of : List Float → List Float → List Float → List ℕ → List ℕ → ℕ → Voice
voice_of fs ss ks ns cs left =
    record {
      lane =
          lane_of fs ks ns cs (params_of fs (unit_of (get_or cs 1 0)) (flag_of (get_or cs 2 0)) (restart_of (get_or cs 3 0)))
          (stage_of (get_or cs 4 0));
      seg = segment_of ss left;
    }

-- The floats of a record: the settings', then the plan's.
abbrev pub floats_of : EnvelopeParams → Spec → Float → Float → List Float
floats_of p spec from to =
    p.delay ∷ p.attack ∷ p.hold ∷ p.decay ∷ p.sustain ∷ p.release ∷ p.attack_curve ∷ p.decay_curve ∷ p.release_curve ∷ p.start ∷ p.end
    ∷ spec.to ∷ from ∷ to ∷ []

-- The codes of a record.
abbrev pub codes_of : Lane → List ℕ
codes_of l =
    l.seg_len ∷ unit_code l.params.unit ∷ flag_code l.params.legato_inverted ∷ restart_code l.params.steal_restart ∷ stage_code l.stage ∷ []

-- Voice v of the arrays.
unfoldable pub voice_at : Arrays → ℕ → Voice
voice_at m v =
    voice_of (floats_at m.floats v) (columns_at m.floats v) (bends_at m.bends v) (counts_at m.counts v) (codes_at m.codes v) (left_at m.codes v)

-- Its settings, its stage and its segment alone.
abbrev pub params_at : List Float → List ℕ → ℕ → EnvelopeParams
params_at f c v =
    params_of (floats_at f v) (unit_of (get_or (codes_at c v) 1 0)) (flag_of (get_or (codes_at c v) 2 0)) (restart_of (get_or (codes_at c v) 3 0))

abbrev pub stage_at : List ℕ → ℕ → Stage
stage_at c v = stage_of (get_or (codes_at c v) 4 0)

abbrev pub segment_at : List Float → List ℕ → ℕ → Segment
segment_at f c v = segment_of (columns_at f v) (left_at c v)

-- What is read for the number v: x, or y where there is no room for such a voice.
abbrev pub if_room : {A : Type 0} → ℕ → A → A → A
if_room v x y = cond (ltb v max_voices) x y

abbrev pub loaded : Arrays → ℕ → Voice
loaded m v = if_room v (voice_at m v) (Planning.new amp)

-- ---- frame conditions

-- Every number of lane w is as it was.
pub record Same (w : ℕ) (m m' : Arrays) : Type 0 where
  pub columns : columns_at m'.floats w ≡ columns_at m.floats w
  pub left : left_at m'.codes w ≡ left_at m.codes w
  pub floats : floats_at m'.floats w ≡ floats_at m.floats w
  pub bends : bends_at m'.bends w ≡ bends_at m.bends w
  pub counts : counts_at m'.counts w ≡ counts_at m.counts w
  pub codes : codes_at m'.codes w ≡ codes_at m.codes w

-- The timing becomes t, or the number of voices n, and every other number of that array stays.
pub record TimingPut (t : Timing) (k k' : List Float) : Type 0 where
  pub here : timing_at k' ≡ t
  pub there : (w : ℕ) → bends_at k' w ≡ bends_at k w

pub record VoicesPut (n : ℕ) (c c' : List ℕ) : Type 0 where
  pub here : voices_at c' ≡ n
  pub left : (w : ℕ) → w < lanes → left_at c' w ≡ left_at c w
  pub there : (w : ℕ) → codes_at c' w ≡ codes_at c w

-- Voice v becomes x, and every other number stays. Where there is no room for a voice v, all do.
pub record Stored (v : ℕ) (x : Voice) (m m' : Arrays) : Type 0 where
  pub here : v < max_voices → voice_at m' v ≡ x
  pub there : (w : ℕ) → w < lanes → w ≢ v → Same w m m'
  pub none : max_voices ≤ v → m' ≡ m
  pub voices : voices_at m'.codes ≡ voices_at m.codes
  pub timing : timing_at m'.bends ≡ timing_at m.bends
