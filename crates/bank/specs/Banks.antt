-- The bank as its calls see it: a list of voices under one clock. What each call makes of it, and the rows that its frames hand out.
use Rattle.std.specs.Prelude.{ℕ, zero, suc, ◌*◌, ◌/◌, cond, List, [], ◌∷◌, ◌++◌, map, ltb, Float, length, get_or, set, replicate, drop}
use Rattle.std.specs.List.{fold}
use Rattle.std.specs.Float.{binary32}
use Rattle.std.specs.Float.Ieee.{to_bits}
use Rattle.numbers.specs.Bytes.{lowest_first}
use Rattle.numbers.specs.Constants as Constants
use Rattle.timing.specs.declared.Timing.{Timing}
use Rattle.curve.specs.Segments as Segments
use Rattle.settings.specs.declared.settings.EnvelopeParams.{EnvelopeParams}
use Rattle.settings.specs.declared.settings.Trigger.{Trigger}
use Rattle.settings.specs.Settings.{amp}
use Rattle.lane.specs.declared.lanes.Voice.{Voice}
use Rattle.lane.specs.Planning as Planning
use Rattle.lane.specs.Voices as Voices
use Rattle.envelope.specs.declared.envelopes.Envelope.{Envelope}
use Rattle.filled.specs.Tables.{tabulate}
use Rattle.memory.specs.declared.arrays.Arrays.{Arrays}
use Rattle.memory.specs.Memory.{count_of, timing_at, voice_at}
use Rattle.rows.specs.Strides.{stride_of}
use Rattle.bank.specs.declared.known.Known.{Known}
use Rattle.bank.specs.Calls.{Opening, Call, if_accepted, opening_refusal, opened, refusal}

-- ---- voices

pub record Bank : Type 0 where
  pub timing : Timing
  pub voices : List Voice

-- The abstraction function: the bank that the arrays represent. Any content of the arrays is some bank.
unfoldable pub bank_of : Arrays → Bank
bank_of m = record { timing = timing_at m.bends; voices = tabulate (count_of m.codes) (voice_at m) }

abbrev pub size : Bank → ℕ
size b = length b.voices

abbrev pub known : Bank → Known
known b = record { voices = size b }

-- Voice v. Past the last one it is an idle voice, which no call reaches.
abbrev pub voice : Bank → ℕ → Voice
voice b v = get_or b.voices v (Planning.new amp)

-- Voice v as a single envelope, with what the bank holds for all of them.
abbrev pub envelope : Bank → ℕ → Envelope
envelope b v = record { voice = voice b v; timing = b.timing }

-- The bank with another voice v, with each voice changed, and with another clock.
abbrev pub put : ℕ → Voice → Bank → Bank
put v x b = record { timing = b.timing; voices = set b.voices v x }

abbrev pub on_all : (Voice → Voice) → Bank → Bank
on_all f b = record { timing = b.timing; voices = map f b.voices }

abbrev pub with_timing : Timing → Bank → Bank
with_timing t b = record { timing = t; voices = b.voices }

-- ---- frames

-- Every voice one frame on, and n frames on.
abbrev pub frame : Bank → Bank
frame b = on_all (Voices.frame b.timing) b

abbrev pub frames : ℕ → Bank → Bank
frames zero b = b
frames (suc n) b = frames n (frame b)

-- A row of n voices with these levels: +0 in the spare lanes.
abbrev pub row : ℕ → (ℕ → Float) → List Float
row n level = tabulate (stride_of n) (λ v. cond (ltb v n) (level v) Constants.zero)

-- The rows of n frames, one after the other.
abbrev pub rows : ℕ → Bank → List Float
rows zero b = []
rows (suc n) b = row (size b) (λ v. Segments.level (voice b v).seg) ++ rows n (frame b)

-- ---- calls

-- A refusal's number, 0 if the call was accepted, and the bank after it.
pub record Answer : Type 0 where
  pub refusal : ℕ
  pub bank : Bank

-- Idle envelopes of these settings.
abbrev pub idle : ℕ → EnvelopeParams → Timing → Bank
idle n p t = record { timing = t; voices = replicate n (Planning.new p) }

-- A fresh bank.
unfoldable pub new : Opening → Answer
new o = let p = opened o in record { refusal = opening_refusal o; bank = idle p.voices p.params p.timing }

-- A note of the voice v.
abbrev pub triggered : Trigger → Bank → ℕ → Bank
triggered x b v = put v (Voices.trigger b.timing x (voice b v)) b

-- The bank after an accepted call.
unfoldable pub after_accepted : Bank → Call → Bank
after_accepted b (Call.set_params v p) = put v (Voices.set_params b.timing p (voice b v)) b
after_accepted b (Call.set_all_params p) = on_all (Voices.set_params b.timing p) b
after_accepted b (Call.set_timing t) = on_all (Voices.replan t) (with_timing t b)
after_accepted b (Call.trigger v x) = triggered x b v
after_accepted b (Call.chord vs x) = fold (triggered x) b vs
after_accepted b (Call.release v) = put v (Voices.release b.timing (voice b v)) b
after_accepted b (Call.reset v) = put v (Voices.reset b.timing (voice b v)) b
after_accepted b (Call.join v from) = put v (voice b from) b
after_accepted b (Call.process len) = frames (len / stride_of (size b)) b
after_accepted b (Call.ask q) = b

-- What a call answers that may change the bank: its refusal, 0 if it is accepted, and the bank, which a refused call leaves.
unfoldable pub answer : Bank → Call → Answer
answer b c = record { refusal = refusal (known b) c; bank = if_accepted (refusal (known b) c) (after_accepted b c) b }

-- What an output holds after a process: its rows, or what it held if that is refused.
unfoldable pub written : Bank → List Float → List Float
written b out = if_accepted (refusal (known b) (Call.process (length out))) (rows (length out / stride_of (size b)) b) out

-- ---- bytes

-- Four to a level: its bits, the lowest byte first.
abbrev pub bytes : List Float → List ℕ
bytes [] = []
bytes (x ∷ xs) = lowest_first 4 (to_bits binary32 x) ++ bytes xs

-- 11: n frames are more levels than so many bytes hold.
unfoldable pub bytes_refusal : Bank → ℕ → ℕ → ℕ
bytes_refusal b n places = cond (ltb (places / 4) (n * stride_of (size b))) 11 0

-- What an output of bytes holds after n frames: their levels from its first byte on, then what it held past them; all that it held if it has no room
-- for them.
unfoldable pub written_bytes : Bank → ℕ → List ℕ → List ℕ
written_bytes b n out = let bs = bytes (rows n b) in if_accepted (bytes_refusal b n (length out)) (bs ++ drop (length bs) out) out

-- The bank after them.
unfoldable pub after_bytes : Bank → ℕ → ℕ → Bank
after_bytes b n places = if_accepted (bytes_refusal b n places) (frames n b) b
