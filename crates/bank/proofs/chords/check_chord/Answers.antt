-- `check_chord`: its two tests are the definition's, so at the first return the number is 12; else it is that of the voices.
use mathlib.Core.Path.{refl}
use borrow.Author.Tests.{lt-ltb, le-ltb}
use lib.ListN.{length}
use Rattle.bank.specs.Calls.{chord_refusal}
use Rattle.bank.proofs.chords.check_chord.Goals as goal
use Rattle.bank.proofs.chords.check_chord.Goals.{then-voices-gt-MAX_VOICES-via-then-voices-gt-MAX_VOICES, then-voices-gt-MAX_VOICES-via-else-voices-gt-MAX_VOICES+then-names_twice}

pub returns-then-voices-gt-MAX_VOICES : goal.returns-then-voices-gt-MAX_VOICES
unfolding chord_refusal
returns-then-voices-gt-MAX_VOICES c =
    let vs = c.args.voices.now in
    elim c.then-voices-gt-MAX_VOICES.branch [
      | then-voices-gt-MAX_VOICES-via-then-voices-gt-MAX_VOICES w ↦ rw (lt-ltb 64 (length vs) w.if-voices-gt-MAX_VOICES.true) refl
      | then-voices-gt-MAX_VOICES-via-else-voices-gt-MAX_VOICES+then-names_twice w ↦
          rw (le-ltb 64 (length vs) w.if-voices-gt-MAX_VOICES.false, ← w.names_twice.ensures, w.if-names_twice.true) refl
    ]

pub returns : goal.returns
unfolding chord_refusal
returns c = rw (le-ltb 64 (length c.args.voices.now) c.if-voices-gt-MAX_VOICES.false, ← c.names_twice.ensures, c.if-names_twice.false) c.check_voices.ensures
