-- What an event does with a bank.
use Rattle.std.specs.Prelude.{ℕ, ◌*◌}
use Rattle.events.specs.declared.Event.{Event}
use Rattle.bank.specs.declared.known.Known.{Known}
use Rattle.bank.specs.Calls.{Opening, opening, Call, known_of, learned, opening_refusal, refusal}
use Rattle.rows.specs.Strides.{stride_of}

-- It opens a bank, or it makes a call.
pub data Action : Type 0 where
  opens : Opening → Action
  calls : Call → Action

-- Frames are a process whose output they fill.
unfoldable pub action : Known → Event → Action
action k (Event.Open n t p) = opens (opening n p t)
action k (Event.SetParams v p) = calls (Call.set_params v p)
action k (Event.SetAllParams p) = calls (Call.set_all_params p)
action k (Event.SetTiming t) = calls (Call.set_timing t)
action k (Event.Trigger v x) = calls (Call.trigger v x)
action k (Event.Release v) = calls (Call.release v)
action k (Event.Reset v) = calls (Call.reset v)
action k (Event.Join v from) = calls (Call.join v from)
action k (Event.Frames n) = calls (Call.process (n * stride_of k.voices))

-- The call's own number.
unfoldable pub own_refusal : Known → Action → ℕ
own_refusal k (opens o) = opening_refusal o
own_refusal k (calls c) = refusal k c

-- What is known of the bank after it.
unfoldable pub known_after : Known → Action → Known
known_after k (opens o) = known_of o
known_after k (calls c) = learned k c

-- The frames that an event asks for.
unfoldable pub frames_of : Event → ℕ
frames_of (Event.Open n t p) = 0
frames_of (Event.SetParams v p) = 0
frames_of (Event.SetAllParams p) = 0
frames_of (Event.SetTiming t) = 0
frames_of (Event.Trigger v x) = 0
frames_of (Event.Release v) = 0
frames_of (Event.Reset v) = 0
frames_of (Event.Join v from) = 0
frames_of (Event.Frames n) = n
