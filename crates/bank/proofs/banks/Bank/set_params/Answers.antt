-- `set_params`: refused by the test for the voice (`missing`), then by the settings' (`propagated`); else what `with` ensures of one voice is the bank's
-- answer (`of_one`).
use mathlib.Core.Path.{refl, sym}
use native.Mathlib.Omega.{arith}
use borrow.Author.Tests.{lt-ltb}
use Rattle.settings.specs.Refusals as Refusals
use Rattle.memory.specs.Memory.{timing_at}
use Rattle.bank.specs.declared.changes.Change.TheVariants.{Params}
use Rattle.bank.specs.Calls.{Call, refusal}
use Rattle.bank.specs.Banks.{bank_of, size, after_accepted}
use Rattle.bank.specs.Parts.{changed}
use Rattle.bank.proofs.Representation.{size_of}
use Rattle.bank.proofs.Answers.{propagated, missing, of_one}
use Rattle.bank.proofs.banks.Bank.set_params.Goals as goal

pub returns-in_err-check : goal.returns-in_err-check
unfolding refusal
returns-in_err-check c =
    let a = c.args in
    let r = missing (Call.set_params a.voice a.params) a.self.now.arrays a.voice (Refusals.params a.params) refl c.from_residual.result c.in_err-check.field-0.0 c.from_residual.ensures.1 c.in_err-check.ensures in
    record { refusal = r.0; bank = r.1.0; kept = r.1.1 }

pub returns-in_err-check_params : goal.returns-in_err-check_params
unfolding refusal
returns-in_err-check_params c =
    let a = c.args in
    let m = a.self.now.arrays in
    let r = propagated (Call.set_params a.voice a.params) m c.from_residual-in_err-check_params.result c.in_err-check_params.field-0.0 c.from_residual-in_err-check_params.ensures.1
    (rw (lt-ltb a.voice (size (bank_of m)) (omega (arith, c.in_ok-check.ensures, size_of m))) c.in_err-check_params.ensures) in
    record { refusal = r.0; bank = r.1.0; kept = r.1.1 }

pub returns : goal.returns
unfolding refusal after_accepted changed bank_of
returns c =
    let a = c.args in
    let m = a.self.now.arrays in
    let r = of_one (Call.set_params a.voice a.params) m a.voice (changed (timing_at m.bends) (Params a.params)) (rw (sym c.in_ok-check_params.ensures)) refl _ _ c.with.ensures in
    record { refusal = r.0; bank = r.1.0; kept = r.1.1 }
