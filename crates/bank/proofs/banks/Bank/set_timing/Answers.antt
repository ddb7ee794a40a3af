-- `set_timing`: the timing's refusal is handed on (`propagated`); else the timing was put (`timed-bank`), and `with_all` has replanned every voice by it
-- (`accepted`).
use mathlib.Core.Path.{sym, ap, ◌∙◌}
use Rattle.timing.specs.declared.Timing.{Timing}
use Rattle.lane.specs.Voices as Voices
use Rattle.memory.proofs.Storing.{same_trans}
use Rattle.bank.specs.Calls.{Call, refusal}
use Rattle.bank.specs.Banks.{bank_of, on_all, after_accepted}
use Rattle.bank.specs.Parts.{changed}
use Rattle.bank.proofs.Representation.{timed, timed-same, timed-bank}
use Rattle.bank.proofs.Answers.{propagated, accepted}
use Rattle.bank.proofs.banks.Bank.set_timing.Goals as goal

pub returns-in_err-check_timing : goal.returns-in_err-check_timing
unfolding refusal
returns-in_err-check_timing c =
    let a = c.args in
    let r = propagated (Call.set_timing a.timing) a.self.now.arrays c.from_residual.result c.in_err-check_timing.field-0.0 c.from_residual.ensures.1 c.in_err-check_timing.ensures in
    record { refusal = r.0; bank = r.1.0; kept = r.1.1 }

pub returns : goal.returns
unfolding refusal after_accepted changed
returns c =
    let a = c.args in
    let m = a.self.now.arrays in
    let T = c.put_timing.ensures in
    let r = accepted (Call.set_timing a.timing) m _ (sym c.in_ok-check_timing.ensures)
    (c.with_all.ensures.bank ∙ ap (λ (t : Timing). on_all (Voices.replan t) (bank_of (timed a.timing m _ T))) T.here
    ∙ ap (on_all (Voices.replan a.timing)) (timed-bank a.timing m _ T))
    (λ w i j. same_trans w m _ _ (timed-same a.timing m _ T w) (c.with_all.ensures.beside w i j))
    in
    record { refusal = r.0; bank = r.1.0; kept = r.1.1 }
