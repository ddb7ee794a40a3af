-- A note on one envelope, step by step, and all readings of an envelope.
use Rattle.std.specs.Prelude.{ℕ, List, Float}
use Rattle.timing.specs.declared.Timing.{Timing}
use Rattle.settings.specs.declared.settings.EnvelopeParams.{EnvelopeParams}
use Rattle.settings.specs.declared.settings.Trigger.{Trigger}
use Rattle.envelope.specs.declared.envelopes.Envelope.{Envelope}
use Rattle.envelope.specs.Envelopes as Envelopes
use Rattle.settings.specs.Refusals.{number_of}
use Rattle.replay.specs.declared.notes.Note as declared
use Rattle.replay.specs.declared.replies.AllReadings.{AllReadings}

-- Silenced, and the key goes down.
abbrev pub triggered : Envelope → Trigger → Envelope
triggered e k = Envelopes.trigger k (Envelopes.reset e)

-- After n frames more, and with the settings changed, and the timing.
abbrev pub after_block : Envelope → Trigger → ℕ → Envelope
after_block e k n = Envelopes.frames n (triggered e k)

abbrev pub set : Envelope → EnvelopeParams → Envelope
set e p = (Envelopes.set_params p e).envelope

abbrev pub timed : Envelope → EnvelopeParams → Timing → Envelope
timed e p t = (Envelopes.set_timing t (set e p)).envelope

-- The levels of the n frames.
abbrev pub levels : Envelope → Trigger → ℕ → List Float
levels e k n = Envelopes.levels n (triggered e k)

-- The numbers of what its calls answer, 0 if they are accepted, and the envelope after them.
pub record Note : Type 0 where
  pub params_refused : ℕ
  pub timing_refused : ℕ
  pub level : Float
  pub envelope : Envelope

-- What the struct says as one.
abbrev pub seen : declared.Note → Note
seen n = record { params_refused = number_of n.params; timing_refused = number_of n.timing; level = n.level; envelope = n.envelope }

-- The key goes up one frame later.
abbrev pub note : Envelope → Trigger → ℕ → EnvelopeParams → Timing → Note
note e k n p t = record {
  params_refused = (Envelopes.set_params p (after_block e k n)).refusal;
  timing_refused = (Envelopes.set_timing t (set (after_block e k n) p)).refusal;
  level = Envelopes.level (timed (after_block e k n) p t);
  envelope = Envelopes.release (Envelopes.frame (timed (after_block e k n) p t));
}

abbrev pub readings : Envelope → AllReadings
readings e = record { params = Envelopes.params e; stage = Envelopes.stage e; idle = Envelopes.is_idle e; level = Envelopes.level e; tail = Envelopes.tail e; lead = Envelopes.lead e }
