-- Lists of calls on the single envelope, refused ones included. Readings change nothing and are left out.
use Rattle.std.specs.Prelude.{ℕ, List, [], ◌∷◌}
use Rattle.timing.specs.declared.Timing.{Timing}
use Rattle.settings.specs.declared.settings.EnvelopeParams.{EnvelopeParams}
use Rattle.settings.specs.declared.settings.Trigger.{Trigger}
use Rattle.envelope.specs.declared.envelopes.Envelope.{Envelope}
use Rattle.envelope.specs.Envelopes as Envelopes

pub data Call : Type 0 where
  params : EnvelopeParams → Call
  timing : Timing → Call
  trigger : Trigger → Call
  release reset : Call
  -- A block of so many frames; the next level is a block of 1.
  process : ℕ → Call

-- The envelope after a call, as the functions' statements have it.
abbrev pub after : Envelope → Call → Envelope
after e (Call.params p) = (Envelopes.set_params p e).envelope
after e (Call.timing t) = (Envelopes.set_timing t e).envelope
after e (Call.trigger x) = Envelopes.trigger x e
after e Call.release = Envelopes.release e
after e Call.reset = Envelopes.reset e
after e (Call.process n) = Envelopes.frames n e

-- The envelope after a list of calls, in order.
abbrev pub after_all : Envelope → List Call → Envelope
after_all e [] = e
after_all e (c ∷ cs) = after_all (after e c) cs
