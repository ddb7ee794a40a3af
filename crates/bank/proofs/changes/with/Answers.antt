-- `with`: a voice that there is becomes what `change_voice` stored (`one-done`); one that there is not is refused, and nothing is touched
-- (`one-missing`).
use mathlib.Core.Path.{ap}
use Rattle.timing.specs.declared.Timing.{Timing}
use Rattle.memory.specs.Memory.{timing_at, loaded}
use Rattle.bank.specs.Parts.{changed}
use Rattle.bank.proofs.Representation.{one-done, one-missing}
use Rattle.bank.proofs.changes.with.Goals as goal

pub returns-in_err-check : goal.returns-in_err-check
returns-in_err-check c =
    let a = c.args in
    one-missing a.v (changed (timing_at a.m.now.bends) a.by) a.m.now c.from_residual.result c.in_err-check.field-0.0 c.from_residual.ensures.1 c.in_err-check.ensures

pub returns : goal.returns
returns c =
    let a = c.args in
    one-done a.v (changed (timing_at a.m.now.bends) a.by) _ a.m.now _ c.in_ok-check.ensures
    (ap (λ (t : Timing). changed t a.by (loaded a.m.now a.v)) c.timing-timing.ensures) c.change_voice.ensures
