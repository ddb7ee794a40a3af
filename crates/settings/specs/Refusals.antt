-- Document 01, "No's, by call": the numbers of what is refused, 0 for what is accepted, and their conditions.
use Rattle.std.specs.Prelude.{ℕ, Bool, cond, ◌||◌, Result, Ok, Err}
use Rattle.timing.specs.declared.Timing.{Timing}
use Rattle.timing.specs.Samples.{over}
use Rattle.settings.specs.declared.settings.EnvelopeParams.{EnvelopeParams}
use Rattle.settings.specs.declared.refusals.Refusal.{Refusal}
use Rattle.settings.specs.declared.refusals.Refusal.TheVariants.{TooManyVoices, NoSuchVoice, TimeOver, RateOver, NotWholeFrames, CutShort, UnknownTag, WrongLength, MisplacedOpen, UnnamedCode, OutputTooShort, NotAChord}

-- Each refusal's number.
abbrev pub number : Refusal → ℕ
number TooManyVoices = 1
number NoSuchVoice = 2
number TimeOver = 3
number RateOver = 4
number NotWholeFrames = 5
number CutShort = 6
number UnknownTag = 7
number WrongLength = 8
number MisplacedOpen = 9
number UnnamedCode = 10
number OutputTooShort = 11
number NotAChord = 12

-- The number of an answer: 0 if the call is accepted.
abbrev pub number_of : {A : Type 0} → Result A Refusal → ℕ
number_of (Ok x) = 0
number_of (Err r) = number r

-- A time over its limit.
unfoldable pub time_over : EnvelopeParams → Bool
time_over p = over p.delay || over p.attack || over p.hold || over p.decay || over p.release

-- A sample rate over its limit.
unfoldable pub rate_over : Timing → Bool
rate_over t = over t.sample_rate

-- Settings: 3.
unfoldable pub params : EnvelopeParams → ℕ
params p = cond (time_over p) 3 0

-- Timing: 4.
unfoldable pub timing : Timing → ℕ
timing t = cond (rate_over t) 4 0

-- A fresh envelope: 4, then 3.
unfoldable pub fresh : EnvelopeParams → Timing → ℕ
fresh p t = cond (rate_over t) 4 (params p)
