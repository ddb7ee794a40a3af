-- `names_twice`: a number that stands among those before it, as its mark or the search says, is named twice (`twice-found`); else one more is
-- different from those before it (`marked-one`, `marked-none`), and at the end all are.
use mathlib.Core.Path.{sym, ap, subst, ◌∙◌}
use Prim.Native.Nat.{◌+◌, ◌<◌}
use native.Mathlib.Omega.{arith}
use lib.ListN.{get_or}
use Rattle.std.proofs.lemmas.List.{take_all}
use Rattle.bank.specs.Calls.{names_twice}
use Rattle.bank.proofs.Repeats.{Marked, twice-found, marked-start, marked-one, marked-none}
use Rattle.bank.proofs.chords.names_twice.Goals as goal
use Rattle.bank.proofs.chords.names_twice.Goals.{then-voice-ge-MAX_VOICES+else-contains, else-voice-ge-MAX_VOICES+else-marked-voice}

pub loop-i-init : goal.loop-i-init
loop-i-init c = marked-start c.args.voices.now

pub returns-then-contains : goal.returns-then-contains
returns-then-contains c =
    let a = c.args in
    let l = c.loop-i in
    sym (twice-found a.voices.now l.i c.loop-i-test.true (sym c.contains.ensures.value ∙ c.if-contains.true))

pub returns-then-marked-voice : goal.returns-then-marked-voice
returns-then-marked-voice c =
    let a = c.args in
    let l = c.loop-i in
    sym (twice-found a.voices.now l.i c.loop-i-test.true
    (sym (l.invariant.tells (get_or a.voices.now l.i 0) (omega (arith, c.if-voice-ge-MAX_VOICES.false))) ∙ c.if-marked-voice.true))

pub loop-i-preserved : goal.loop-i-preserved
loop-i-preserved c =
    let a = c.args in
    let l = c.loop-i in
    let h = c.loop-i-test.true in
    elim c.if-voice-ge-MAX_VOICES.branch [
      | then-voice-ge-MAX_VOICES+else-contains w ↦
          subst (Marked a.voices.now (l.i + 1)) (sym w.marked-is)
          (marked-none a.voices.now l.i h l.marked l.invariant (sym w.contains.ensures.value ∙ w.if-contains.false) w.if-voice-ge-MAX_VOICES.true)
      | else-voice-ge-MAX_VOICES+else-marked-voice w ↦
          let v : get_or a.voices.now l.i 0 < 64 = omega (arith, w.if-voice-ge-MAX_VOICES.false) in
          subst (Marked a.voices.now (l.i + 1)) (sym w.marked-is)
          (marked-one a.voices.now l.i h l.marked l.invariant (sym (l.invariant.tells (get_or a.voices.now l.i 0) v) ∙ w.if-marked-voice.false) v)
    ]

pub returns : goal.returns
returns c =
    let a = c.args in
    let l = c.loop-i in
    sym (ap names_twice (sym (take_all l.i a.voices.now c.loop-i-test.false)) ∙ l.invariant.different)
