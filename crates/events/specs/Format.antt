-- What an event list holds, byte by byte: document 01, 'The event list', and the numbers 6 to 10 of "No's, by call".
use Rattle.std.specs.Prelude.{ℕ, zero, suc, ◌+◌, Bool, true, false, cond, not, ◌&&◌, List, [], ◌∷◌, ltb, eqb, length, get_or, Float, Option, None, Some, Result, Ok, Err}
use Rattle.std.specs.Bool.{beq}
use Rattle.std.specs.Float.{binary32, binary64}
use Rattle.std.specs.Float.Ieee.{of_bits}
use Rattle.numbers.specs.Bytes.{number}
use Rattle.timing.specs.declared.Timing.{Timing}
use Rattle.timing.specs.declared.TimeUnit.{TimeUnit}
use Rattle.timing.specs.declared.TimeUnit.TheVariants.{Milliseconds, Tempo}
use Rattle.settings.specs.declared.settings.EnvelopeParams.{EnvelopeParams}
use Rattle.settings.specs.declared.settings.StealRestart.{StealRestart}
use Rattle.settings.specs.declared.settings.StealRestart.TheVariants.{CurrentLevel, StartLevel}
use Rattle.settings.specs.declared.settings.Trigger.{Trigger}
use Rattle.settings.specs.declared.settings.Trigger.TheVariants.{New, Retrigger, Legato}
use Rattle.settings.specs.declared.refusals.Refusal.{Refusal}
use Rattle.settings.specs.Refusals as Refusals
use Rattle.events.specs.declared.Event.{Event}
use Rattle.events.specs.declared.Record as TheRecord
use Rattle.events.specs.declared.tags.Tag.{Tag}

-- ---- numbers

abbrev pub byte : List ℕ → ℕ → ℕ
byte l i = get_or l i 0

-- The binary32 and the binary64 from byte i on. Every NaN pattern is NaN.
abbrev pub single : List ℕ → ℕ → Float
single l i = of_bits binary32 (number 4 l i)

abbrev pub double : List ℕ → ℕ → Float
double l i = of_bits binary64 (number 8 l i)

-- ---- bodies

-- T: rate, tempo, scale.
unfoldable pub timing : List ℕ → ℕ → Timing
timing l i = record { sample_rate = double l i; tempo = double l (i + 8); scale = double l (i + 16) }

-- The code bytes: 0 milliseconds, 1 beats; 0 current, 1 start; 0 new, 1 retrigger, 2 legato.
abbrev pub unit : ℕ → TimeUnit
unit zero = Milliseconds
unit (suc n) = Tempo

abbrev pub restart : ℕ → StealRestart
restart zero = CurrentLevel
restart (suc n) = StartLevel

abbrev pub kind : ℕ → Trigger
kind zero = New
kind (suc zero) = Retrigger
kind (suc (suc n)) = Legato

-- S: unit, the 11 numbers in `EnvelopeParams`' order, legato inverted, restart.
unfoldable pub params : List ℕ → ℕ → EnvelopeParams
params l i =
    record {
      unit = unit (byte l i);
      delay = single l (i + 1);
      attack = single l (i + 5);
      hold = single l (i + 9);
      decay = single l (i + 13);
      sustain = single l (i + 17);
      release = single l (i + 21);
      attack_curve = single l (i + 25);
      decay_curve = single l (i + 29);
      release_curve = single l (i + 33);
      start = single l (i + 37);
      end = single l (i + 41);
      legato_inverted = eqb (byte l (i + 45)) 1;
      steal_restart = restart (byte l (i + 46));
    }

-- Whether the code bytes of an S have a name.
unfoldable pub named : List ℕ → ℕ → Bool
named l i = ltb (byte l i) 2 && (ltb (byte l (i + 45)) 2 && ltb (byte l (i + 46)) 2)

-- ---- records

-- What stands at a place of a list: an event and the place after its record, or the number that refuses the record.
pub data Parsed : Type 0 where
  Record : Event → ℕ → Parsed
  Refused : ℕ → Parsed

abbrev pub parsed : Result TheRecord.Record Refusal → Parsed
parsed (Ok r) = Parsed.Record r.event r.next
parsed (Err e) = Parsed.Refused (Refusals.number e)

-- The tags by their numbers, from 0, which is no tag's. A number past them is no tag's either.
abbrev pub tags : List (Option Tag)
tags =
    None
    ∷ Some Tag.Open
    ∷ Some Tag.SetParams
    ∷ Some Tag.SetAllParams
    ∷ Some Tag.SetTiming
    ∷ Some Tag.Trigger
    ∷ Some Tag.Release
    ∷ Some Tag.Reset
    ∷ Some Tag.Join
    ∷ Some Tag.Frames
    ∷ []

abbrev pub tag_of : ℕ → Option Tag
tag_of n = get_or tags n None

-- The body's length by the tag.
abbrev pub body_length : Tag → ℕ
body_length Tag.Open = 72
body_length Tag.SetParams = 48
body_length Tag.SetAllParams = 47
body_length Tag.SetTiming = 24
body_length Tag.Trigger = 2
body_length Tag.Release = 1
body_length Tag.Reset = 1
body_length Tag.Join = 2
body_length Tag.Frames = 4

abbrev pub is_open : Tag → Bool
is_open Tag.Open = true
is_open Tag.SetParams = false
is_open Tag.SetAllParams = false
is_open Tag.SetTiming = false
is_open Tag.Trigger = false
is_open Tag.Release = false
is_open Tag.Reset = false
is_open Tag.Join = false
is_open Tag.Frames = false

-- What is read, or that a code byte has no name.
abbrev pub if_named : {A : Type 0} → Bool → A → Result A Refusal
if_named b x = cond b (Ok x) (Err Refusal.UnnamedCode)

-- What a record with this tag says, whose body begins at byte i.
unfoldable pub meaning : Tag → List ℕ → ℕ → Result Event Refusal
meaning Tag.Open l i = if_named (named l (i + 25)) (Event.Open (byte l i) (timing l (i + 1)) (params l (i + 25)))
meaning Tag.SetParams l i = if_named (named l (i + 1)) (Event.SetParams (byte l i) (params l (i + 1)))
meaning Tag.SetAllParams l i = if_named (named l i) (Event.SetAllParams (params l i))
meaning Tag.SetTiming l i = Ok (Event.SetTiming (timing l i))
meaning Tag.Trigger l i = if_named (ltb (byte l (i + 1)) 3) (Event.Trigger (byte l i) (kind (byte l (i + 1))))
meaning Tag.Release l i = Ok (Event.Release (byte l i))
meaning Tag.Reset l i = Ok (Event.Reset (byte l i))
meaning Tag.Join l i = Ok (Event.Join (byte l i) (byte l (i + 1)))
meaning Tag.Frames l i = Ok (Event.Frames (number 4 l i))

-- That, as a reading of a record that ends before byte `next`.
abbrev pub ended : ℕ → Result Event Refusal → Parsed
ended next (Ok e) = Parsed.Record e next
ended next (Err e) = Parsed.Refused (Refusals.number e)

-- Whether a record with this tag stands where it may: an open at byte 0, where the first record is, and no other record there.
abbrev pub placed : Tag → ℕ → Bool
placed tag at = beq (is_open tag) (eqb at 0)

abbrev pub if_known : Option Tag → (Tag → Parsed) → Parsed
if_known None f = Parsed.Refused 7
if_known (Some tag) f = f tag

-- The record at byte `at`, tested in document 01's order: 6 its head or its body doesn't fit, 7 an unknown tag, 8 a wrong length, 9 an open that
-- isn't first or a first record that is no open, 10 a code byte without a name.
unfoldable pub read : List ℕ → ℕ → Parsed
read l at =
    let len = number 2 l (at + 1) in
    cond (ltb (length l) (at + 3)) (Parsed.Refused 6)
    (cond (ltb (length l) (at + 3 + len)) (Parsed.Refused 6)
    (if_known (tag_of (byte l at)) (λ tag.
    cond (not (eqb len (body_length tag))) (Parsed.Refused 8)
    (cond (not (placed tag at)) (Parsed.Refused 9)
    (ended (at + 3 + len) (meaning tag l (at + 3)))))))
