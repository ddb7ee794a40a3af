-- The single envelope by value: each call's answer, and the levels that frames hand out.
use Rattle.std.specs.Prelude.{ℕ, zero, suc, Bool, cond, List, [], ◌∷◌, eqb, Float, Result, Ok, Err}
use Rattle.numbers.specs.Constants as Constants
use Rattle.timing.specs.declared.Timing.{Timing}
use Rattle.timing.specs.Clock as Clock
use Rattle.curve.specs.Segments as Segments
use Rattle.settings.specs.declared.settings.EnvelopeParams.{EnvelopeParams}
use Rattle.settings.specs.declared.settings.Trigger.{Trigger}
use Rattle.settings.specs.declared.stages.Stage.{Stage}
use Rattle.settings.specs.declared.refusals.Refusal.{Refusal}
use Rattle.settings.specs.Settings.{amp}
use Rattle.settings.specs.Stages as Stages
use Rattle.lane.specs.Planning as Planning
use Rattle.settings.specs.Refusals as Refusals
use Rattle.lane.specs.Readings as Readings
use Rattle.lane.specs.Voices as Voices
use Rattle.envelope.specs.declared.envelopes.Envelope.{Envelope}
use Rattle.envelope.specs.declared.envelopes.Frame.{Frame}

-- A refusal's number, 0 if the call was accepted, and the envelope after it.
pub record Answer : Type 0 where
  pub refusal : ℕ
  pub envelope : Envelope

-- A Result as an answer: beside a refusal it has the envelope `refused`.
abbrev pub answer_of : Envelope → Result Envelope Refusal → Answer
answer_of refused (Ok e) = record { refusal = 0; envelope = e }
answer_of refused (Err r) = record { refusal = Refusals.number r; envelope = refused }

-- The idle envelope of these settings and timing.
abbrev pub idle : EnvelopeParams → Timing → Envelope
idle p t = record { voice = Planning.new p; timing = t }

-- Beside a refused fresh call: the idle envelope of AMP and Timing::new(0.0).
abbrev pub fallback : Envelope
fallback = idle amp (Clock.new Constants.zero)

-- What a call answers that is refused by the number n, or accepted if n is 0.
abbrev pub answer : ℕ → Envelope → Envelope → Answer
answer n refused accepted = record { refusal = n; envelope = cond (eqb n 0) accepted refused }

-- ---- calls

abbrev pub fresh : EnvelopeParams → Timing → Answer
fresh p t = answer (Refusals.fresh p t) fallback (idle p t)

-- The new numbers are kept, then `replan`.
abbrev pub with_params : EnvelopeParams → Envelope → Envelope
with_params p e = record { voice = Voices.set_params e.timing p e.voice; timing = e.timing }

abbrev pub with_timing : Timing → Envelope → Envelope
with_timing t e = record { voice = Voices.replan t e.voice; timing = t }

abbrev pub set_params : EnvelopeParams → Envelope → Answer
set_params p e = answer (Refusals.params p) e (with_params p e)

abbrev pub set_timing : Timing → Envelope → Answer
set_timing t e = answer (Refusals.timing t) e (with_timing t e)

abbrev pub trigger : Trigger → Envelope → Envelope
trigger x e = record { voice = Voices.trigger e.timing x e.voice; timing = e.timing }

abbrev pub release : Envelope → Envelope
release e = record { voice = Voices.release e.timing e.voice; timing = e.timing }

abbrev pub reset : Envelope → Envelope
reset e = record { voice = Voices.reset e.timing e.voice; timing = e.timing }

-- ---- readings

abbrev pub params : Envelope → EnvelopeParams
params e = e.voice.lane.params

abbrev pub stage : Envelope → Stage
stage e = e.voice.lane.stage

-- What a frame would hand out now.
abbrev pub level : Envelope → Float
level e = Segments.level e.voice.seg

abbrev pub is_idle : Envelope → Bool
is_idle e = Stages.is_idle e.voice.lane.stage

abbrev pub tail : Envelope → ℕ
tail e = Readings.tail e.timing e.voice

abbrev pub lead : Envelope → ℕ
lead e = Readings.lead e.timing e.voice

-- ---- frames

abbrev pub frame : Envelope → Envelope
frame e = record { voice = Voices.frame e.timing e.voice; timing = e.timing }

-- The envelope after n frames.
abbrev pub frames : ℕ → Envelope → Envelope
frames zero e = e
frames (suc n) e = frames n (frame e)

-- The levels that n frames hand out.
abbrev pub levels : ℕ → Envelope → List Float
levels zero e = []
levels (suc n) e = level e ∷ levels n (frame e)

-- The next level, and the envelope after it.
abbrev pub next_level : Envelope → Frame
next_level e = record { level = level e; envelope = frame e }
