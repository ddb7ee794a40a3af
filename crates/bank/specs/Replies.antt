-- What each call replies, in document 01's numbers and values.
use Rattle.std.specs.Prelude.{ℕ, ◌/◌, Bool, List, Float, Result, Ok, Err}
use Rattle.settings.specs.declared.settings.EnvelopeParams.{EnvelopeParams}
use Rattle.settings.specs.declared.stages.Stage.{Stage}
use Rattle.settings.specs.declared.refusals.Refusal.{Refusal}
use Rattle.settings.specs.Refusals.{number}
use Rattle.envelope.specs.declared.envelopes.Envelope.{Envelope}
use Rattle.envelope.specs.Envelopes as Envelopes
use Rattle.bank.specs.declared.known.Known.{Known}
use Rattle.bank.specs.Calls.{Query, Call, if_accepted, refusal}
use Rattle.rows.specs.Strides.{stride_of}
use Rattle.bank.specs.Banks.{Bank, known, envelope, rows}

pub data Reply : Type 0 where
  refused : ℕ → Reply
  done : Reply
  wrote : List Float → Reply
  params : EnvelopeParams → Reply
  stage : Stage → Reply
  level : Float → Reply
  is_idle : Bool → Reply
  count : ℕ → Reply

-- What an accepted reading answers, where e gives the envelope of a voice.
unfoldable pub query_reply : Known → (ℕ → Envelope) → Query → Reply
query_reply k e (Query.params v) = Reply.params (Envelopes.params (e v))
query_reply k e (Query.stage v) = Reply.stage (Envelopes.stage (e v))
query_reply k e (Query.level v) = Reply.level (Envelopes.level (e v))
query_reply k e (Query.is_idle v) = Reply.is_idle (Envelopes.is_idle (e v))
query_reply k e (Query.tail v) = Reply.count (Envelopes.tail (e v))
query_reply k e (Query.lead v) = Reply.count (Envelopes.lead (e v))
query_reply k e Query.voices = Reply.count k.voices
query_reply k e Query.stride = Reply.count (stride_of k.voices)

-- What an accepted call answers, where e gives the envelope of a voice, and drawn the rows of so many frames.
abbrev pub accepted_reply : Known → (ℕ → Envelope) → (ℕ → List Float) → Call → Reply
accepted_reply k e drawn (Call.set_params v p) = Reply.done
accepted_reply k e drawn (Call.set_all_params p) = Reply.done
accepted_reply k e drawn (Call.set_timing t) = Reply.done
accepted_reply k e drawn (Call.trigger v x) = Reply.done
accepted_reply k e drawn (Call.chord vs x) = Reply.done
accepted_reply k e drawn (Call.release v) = Reply.done
accepted_reply k e drawn (Call.reset v) = Reply.done
accepted_reply k e drawn (Call.join v from) = Reply.done
accepted_reply k e drawn (Call.process len) = Reply.wrote (drawn (len / stride_of k.voices))
accepted_reply k e drawn (Call.ask q) = query_reply k e q

-- What a call replies after what is known.
abbrev pub reply_from : Known → (ℕ → Envelope) → (ℕ → List Float) → Call → Reply
reply_from k e drawn c = if_accepted (refusal k c) (accepted_reply k e drawn c) (Reply.refused (refusal k c))

-- What a bank replies to a call.
unfoldable pub reply : Bank → Call → Reply
reply b c = reply_from (known b) (envelope b) (λ n. rows n b) c

-- ---- a reading's answer, in document 01's numbers and values

-- Its value, as a reply, or the refusal.
unfoldable pub of_reading : {A : Type 0} → (A → Reply) → Result A Refusal → Reply
of_reading wrap (Ok x) = wrap x
of_reading wrap (Err r) = Reply.refused (number r)
