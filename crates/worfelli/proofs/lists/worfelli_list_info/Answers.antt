-- `worfelli_list_info`: the check of the list for the longest output decides. An accepted list has its voices and frames stored, and a refused one
-- leaves both numbers; both by `check`'s statement.
use mathlib.Core.Path.{sym, ap, ◌∙◌}
use Rattle.settings.specs.Refusals.{number}
use Rattle.settings.proofs.Propagated.{number-some}
use Rattle.bank.specs.Calls.{if_accepted}
use Rattle.bank.proofs.Accepted.{if_refused}
use Rattle.checking.specs.Checks.{Checked, seen}
use Rattle.worfelli.specs.Lists.{voices, frames}
use Rattle.worfelli.proofs.lists.worfelli_list_info.Goals as goal

pub returns-in-Ok : goal.returns-in-Ok
unfolding voices frames
returns-in-Ok c =
    let a = c.args in
    let p = c.check-verdict.result.passed in
    let e = ap (λ v. seen v p) (sym c.in-Ok.is) ∙ c.check-verdict.ensures in
    record {
      refusal = ap (λ (x : Checked). x.refusal) e;
      voices = ap (λ (x : Checked). if_accepted x.refusal x.known.voices a.voices.now) e;
      frames = ap (λ (x : Checked). if_accepted x.refusal x.frames a.frames.now) e;
    }

pub returns-in-Err : goal.returns-in-Err
unfolding voices frames
returns-in-Err c =
    let a = c.args in
    let p = c.check-verdict.result.passed in
    let n = number c.in-Err.refusal in
    let d = number-some c.in-Err.refusal in
    let e = ap (λ v. seen v p) (sym c.in-Err.is) ∙ c.check-verdict.ensures in
    record {
      refusal = c.number.ensures ∙ ap (λ (x : Checked). x.refusal) e;
      voices = sym (if_refused n p.known.voices a.voices.now d) ∙ ap (λ (x : Checked). if_accepted x.refusal x.known.voices a.voices.now) e;
      frames = sym (if_refused n p.frames a.frames.now d) ∙ ap (λ (x : Checked). if_accepted x.refusal x.frames a.frames.now) e;
    }
