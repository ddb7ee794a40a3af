-- `check_fresh`: the rate's refusal is handed on; where there is none, the settings' is the answer.
use Rattle.std.proofs.Common.{◌≡◌, ℕ, Bool, true, false, refl, cond, ◌∙◌, arith}
use mathlib.Core.Logic.{◌≢◌}
use Rattle.settings.specs.Refusals.{number, fresh, timing, params, rate_over}
use Rattle.settings.proofs.Propagated.{number_of-propagated, number-some}
use Rattle.settings.proofs.refusals.check_fresh.Goals as goal

some : (b : Bool) (n r : ℕ) → r ≡ cond b 4 0 → r ≢ 0 → r ≡ cond b 4 n
some true n r e h = e
some false n r e h = absurd (h e)

none : (b : Bool) (n z : ℕ) → z ≡ 0 → z ≡ cond b 4 0 → n ≡ cond b 4 n
none true n z h e = absurd (omega arith)
none false n z h e = refl

pub returns-in_err-check_timing : goal.returns-in_err-check_timing
unfolding fresh timing
returns-in_err-check_timing c =
    let e = c.in_err-check_timing.field-0.0 in
    number_of-propagated c.from_residual.result e c.from_residual.ensures.1
    ∙ some (rate_over c.args.timing) (params c.args.p) (number e) c.in_err-check_timing.ensures (number-some e)

pub returns : goal.returns
unfolding fresh timing
returns c = c.check_params.ensures ∙ none (rate_over c.args.timing) (params c.args.p) 0 refl c.in_ok-check_timing.ensures
