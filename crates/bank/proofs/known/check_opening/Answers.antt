-- `check_opening`: the test of the number of voices is first, as in the definition; what is left is the settings' and the timing's refusal.
use native.Mathlib.Omega.{arith}
use borrow.Author.Tests.{lt-ltb, le-ltb}
use Rattle.bank.specs.Calls.{opening_refusal}
use Rattle.bank.proofs.known.check_opening.Goals as goal

pub returns-then-voices-gt-MAX_VOICES : goal.returns-then-voices-gt-MAX_VOICES
unfolding opening_refusal
returns-then-voices-gt-MAX_VOICES c = rw (lt-ltb 64 c.args.voices c.if-voices-gt-MAX_VOICES.true)

pub returns : goal.returns
unfolding opening_refusal
returns c = rw (le-ltb 64 c.args.voices (omega (arith, c.if-voices-gt-MAX_VOICES.false))) c.check_fresh.ensures
