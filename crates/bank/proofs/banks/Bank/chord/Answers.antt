-- `chord`: refused by the test of the list (`propagated`), which comes before the first voice; else the notes of its voices, whose bank is the
-- definition's (`accepted`).
use mathlib.Core.Path.{sym}
use Rattle.bank.specs.Calls.{Call, refusal}
use Rattle.bank.specs.Banks.{bank_of, known, after_accepted}
use Rattle.bank.proofs.Answers.{propagated, accepted}
use Rattle.bank.proofs.ChordVoices.{chord-there}
use Rattle.bank.proofs.banks.Bank.chord.Goals as goal

pub returns-in_err-check_chord : goal.returns-in_err-check_chord
unfolding refusal
returns-in_err-check_chord c =
    let a = c.args in
    let r = propagated (Call.chord a.voices.now a.trigger) a.self.now.arrays c.from_residual.result c.in_err-check_chord.field-0.0 c.from_residual.ensures.1 c.in_err-check_chord.ensures in
    record { refusal = r.0; bank = r.1.0; kept = r.1.1 }

pub trigger_voices-requires : goal.trigger_voices-requires
trigger_voices-requires c =
    let a = c.args in
    chord-there (known (bank_of a.self.now.arrays)) a.voices.now (sym c.in_ok-check_chord.ensures)

pub returns : goal.returns
unfolding refusal after_accepted
returns c =
    let a = c.args in
    let r = accepted (Call.chord a.voices.now a.trigger) a.self.now.arrays c.trigger_voices.new.m (sym c.in_ok-check_chord.ensures) c.trigger_voices.ensures.bank c.trigger_voices.ensures.beside in
    record { refusal = r.0; bank = r.1.0; kept = r.1.1 }
