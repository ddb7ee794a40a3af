-- `check_voices`: a voice that is missing refuses the list (`refused_here`), and one that is there leaves it to the rest (`refused_on`); of no rest
-- there is nothing to refuse.
use mathlib.Core.Path.{refl, sym, ap, ◌∙◌}
use native.Mathlib.Omega.{arith}
use Rattle.std.proofs.lemmas.List.{at_drop_all}
use Rattle.settings.specs.Refusals.{number}
use Rattle.settings.proofs.Propagated.{number_of-propagated}
use Rattle.bank.specs.Calls.{voices_refusal}
use Rattle.bank.specs.Banks.{bank_of, known}
use Rattle.bank.proofs.Representation.{size_of}
use Rattle.bank.proofs.ChordVoices.{refused_here, refused_on}
use Rattle.bank.proofs.chords.check_voices.Goals as goal

pub loop-voice-init : goal.loop-voice-init
loop-voice-init c = refl

pub returns-in_err-check : goal.returns-in_err-check
returns-in_err-check c =
    let a = c.args in
    let h = c.in_err-check.ensures in
    number_of-propagated c.from_residual.result c.in_err-check.field-0.0 c.from_residual.ensures.1
    ∙ ap number h.0
    ∙ sym (refused_here (known (bank_of a.m.now)) a.voices.now c.loop-voice.voice-index c.loop-voice-test.true (omega (arith, h.1, size_of a.m.now)))
    ∙ c.loop-voice.invariant

pub loop-voice-preserved : goal.loop-voice-preserved
loop-voice-preserved c =
    let a = c.args in
    sym (refused_on (known (bank_of a.m.now)) a.voices.now c.loop-voice.voice-index c.loop-voice-test.true (omega (arith, c.in_ok-check.ensures, size_of a.m.now)))
    ∙ c.loop-voice.invariant

pub returns : goal.returns
returns c =
    let a = c.args in
    sym (at_drop_all (voices_refusal (known (bank_of a.m.now))) a.voices.now c.loop-voice.voice-index c.loop-voice-test.false)
    ∙ c.loop-voice.invariant
