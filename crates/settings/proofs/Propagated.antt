-- What a `?` hands on: a refusal keeps its number, whatever the answer's type; and no refusal's number is 0. By cases on the answer, and on the
-- refusal.
use Rattle.std.proofs.Common.{◌≡◌, ap, arith}
use mathlib.Core.Logic.{◌≢◌}
use Rattle.std.specs.Prelude.{Result, Ok, Err}
use Rattle.std.specs.Result.{IsErrAnd}
use Rattle.settings.specs.declared.refusals.Refusal.{Refusal}
use Rattle.settings.specs.declared.refusals.Refusal.TheVariants.{TooManyVoices, NoSuchVoice, TimeOver, RateOver, NotWholeFrames, CutShort, UnknownTag, WrongLength, MisplacedOpen, UnnamedCode, OutputTooShort, NotAChord}
use Rattle.settings.specs.Refusals.{number, number_of}

pub number_of-propagated : {A : Type 0} (r : Result A Refusal) (e : Refusal) → IsErrAnd r (λ x. x ≡ e) → number_of r ≡ number e
number_of-propagated (Ok x) e h = absurd h
number_of-propagated (Err x) e h = ap number h

-- No refusal's number is 0.
pub number-some : (e : Refusal) → number e ≢ 0
number-some TooManyVoices = λ h. omega arith
number-some NoSuchVoice = λ h. omega arith
number-some TimeOver = λ h. omega arith
number-some RateOver = λ h. omega arith
number-some NotWholeFrames = λ h. omega arith
number-some CutShort = λ h. omega arith
number-some UnknownTag = λ h. omega arith
number-some WrongLength = λ h. omega arith
number-some MisplacedOpen = λ h. omega arith
number-some UnnamedCode = λ h. omega arith
number-some OutputTooShort = λ h. omega arith
number-some NotAChord = λ h. omega arith
