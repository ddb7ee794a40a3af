-- `set_all_params`: the settings' refusal is handed on (`propagated`); else `with_all` has changed every voice (`accepted`).
use mathlib.Core.Path.{sym}
use Rattle.bank.specs.Calls.{Call, refusal}
use Rattle.bank.specs.Banks.{bank_of, after_accepted}
use Rattle.bank.specs.Parts.{changed}
use Rattle.bank.proofs.Answers.{propagated, accepted}
use Rattle.bank.proofs.banks.Bank.set_all_params.Goals as goal

pub returns-in_err-check_params : goal.returns-in_err-check_params
unfolding refusal
returns-in_err-check_params c =
    let a = c.args in
    let r = propagated (Call.set_all_params a.params) a.self.now.arrays c.from_residual.result c.in_err-check_params.field-0.0 c.from_residual.ensures.1 c.in_err-check_params.ensures in
    record { refusal = r.0; bank = r.1.0; kept = r.1.1 }

pub returns : goal.returns
unfolding refusal after_accepted changed bank_of
returns c =
    let a = c.args in
    let r = accepted (Call.set_all_params a.params) a.self.now.arrays _ (sym c.in_ok-check_params.ensures) c.with_all.ensures.bank c.with_all.ensures.beside in
    record { refusal = r.0; bank = r.1.0; kept = r.1.1 }
