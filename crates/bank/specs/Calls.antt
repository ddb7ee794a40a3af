-- The bank's calls, and the number that refuses each, read from the calls alone: document 01, 'The bank' and "No's, by call".
use Rattle.std.specs.Prelude.{ℕ, zero, suc, ◌%◌, Bool, false, cond, ◌||◌, List, [], ◌∷◌, length, ltb, eqb}
use Rattle.std.specs.List.{list_any}
use Rattle.numbers.specs.Constants as Constants
use Rattle.timing.specs.declared.Timing.{Timing}
use Rattle.timing.specs.Clock as Clock
use Rattle.settings.specs.declared.settings.EnvelopeParams.{EnvelopeParams}
use Rattle.settings.specs.declared.settings.Trigger.{Trigger}
use Rattle.settings.specs.Settings.{amp}
use Rattle.settings.specs.Refusals as Refusals
use Rattle.memory.specs.Memory.{max_voices}
use Rattle.rows.specs.Strides.{stride_of}
use Rattle.bank.specs.declared.known.Known.{Known}

-- ---- the calls

-- The fresh bank that a list of calls begins with.
pub record Opening : Type 0 where
  pub voices : ℕ
  pub params : EnvelopeParams
  pub timing : Timing

abbrev pub opening : ℕ → EnvelopeParams → Timing → Opening
opening n p t = record { voices = n; params = p; timing = t }

-- What is read of it: of one voice, or of the bank.
pub data Query : Type 0 where
  params stage level is_idle tail lead : ℕ → Query
  voices stride : Query

-- What is done with it. A process is given by the length of its output.
pub data Call : Type 0 where
  set_params : ℕ → EnvelopeParams → Call
  set_all_params : EnvelopeParams → Call
  set_timing : Timing → Call
  trigger : ℕ → Trigger → Call
  -- One kind of trigger for each voice of a list.
  chord : List ℕ → Trigger → Call
  release reset : ℕ → Call
  join : ℕ → ℕ → Call
  process : ℕ → Call
  ask : Query → Call

-- What the calls so far tell of the bank as a whole, beside each voice's history, is `Known`: how many voices it has. After a fresh call, and after
-- an accepted call, which adds nothing to it.
abbrev pub known_of : Opening → Known
known_of o = record { voices = o.voices }

abbrev pub learned : Known → Call → Known
learned k c = k

-- ---- refusals

-- What comes of a call that the number n refuses, or that is accepted if n is 0.
abbrev pub if_accepted : {A : Type 0} → ℕ → A → A → A
if_accepted zero accepted refused = accepted
if_accepted (suc n) accepted refused = refused

-- 2: no such voice; else what the later tests say.
abbrev pub voice_refusal : Known → ℕ → ℕ → ℕ
voice_refusal k v later = cond (ltb v k.voices) later 2

-- 2: one of them is missing.
abbrev pub voices_refusal : Known → List ℕ → ℕ
voices_refusal k [] = 0
voices_refusal k (v ∷ vs) = voice_refusal k v (voices_refusal k vs)

-- Whether a number stands in the list twice, be there such a voice or not.
abbrev pub names_twice : List ℕ → Bool
names_twice [] = false
names_twice (v ∷ vs) = list_any (λ w. eqb w v) vs || names_twice vs

-- 12: over 64 entries, or a voice named twice. Then 2.
unfoldable pub chord_refusal : Known → List ℕ → ℕ
chord_refusal k vs = cond (ltb max_voices (length vs) || names_twice vs) 12 (voices_refusal k vs)

-- 1, 4 and 3: over 64 voices, a rate over its limit, a time over its limit.
unfoldable pub opening_refusal : Opening → ℕ
opening_refusal o = cond (ltb max_voices o.voices) 1 (Refusals.fresh o.params o.timing)

-- The bank that is there after a fresh call: beside a refusal the one of 0 voices, AMP and Timing::new(0.0).
unfoldable pub opened : Opening → Opening
opened o = if_accepted (opening_refusal o) o (opening 0 amp (Clock.new Constants.zero))

unfoldable pub query_refusal : Known → Query → ℕ
query_refusal k (Query.params v) = voice_refusal k v 0
query_refusal k (Query.stage v) = voice_refusal k v 0
query_refusal k (Query.level v) = voice_refusal k v 0
query_refusal k (Query.is_idle v) = voice_refusal k v 0
query_refusal k (Query.tail v) = voice_refusal k v 0
query_refusal k (Query.lead v) = voice_refusal k v 0
query_refusal k Query.voices = 0
query_refusal k Query.stride = 0

-- The refusal of a call after what is known, 0 if it is accepted.
unfoldable pub refusal : Known → Call → ℕ
refusal k (Call.set_params v p) = voice_refusal k v (Refusals.params p)
refusal k (Call.set_all_params p) = Refusals.params p
refusal k (Call.set_timing t) = Refusals.timing t
refusal k (Call.trigger v x) = voice_refusal k v 0
refusal k (Call.chord vs x) = chord_refusal k vs
refusal k (Call.release v) = voice_refusal k v 0
refusal k (Call.reset v) = voice_refusal k v 0
refusal k (Call.join v from) = voice_refusal k v (voice_refusal k from 0)
refusal k (Call.process len) = cond (eqb (len % stride_of k.voices) 0) 0 5
refusal k (Call.ask q) = query_refusal k q
