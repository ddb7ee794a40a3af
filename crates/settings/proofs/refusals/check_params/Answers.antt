-- `check_params`: the times are tested in the definition's order, so each branch that refuses knows that those before are within the limit.
use lib.Ieee.{of_bits}
use Rattle.settings.specs.Refusals.{params, time_over}
use Rattle.settings.proofs.refusals.check_params.Goals as goal
use Rattle.settings.proofs.refusals.check_params.Goals.{then-p-via-then-p, then-p-via-else-p+then-p-2, then-p-via-else-p+else-p-2+then-p-3, then-p-via-else-p+else-p-2+else-p-3+then-p-4, then-p-via-else-p+else-p-2+else-p-3+else-p-4+then-p-5}

pub returns-then-p : goal.returns-then-p
unfolding params time_over of_bits
returns-then-p c =
    elim c.then-p.branch [
      | then-p-via-then-p w ↦ simp w.if-p.true
      | then-p-via-else-p+then-p-2 w ↦ simp (w.if-p.false, w.if-p-2.true)
      | then-p-via-else-p+else-p-2+then-p-3 w ↦ simp (w.if-p.false, w.if-p-2.false, w.if-p-3.true)
      | then-p-via-else-p+else-p-2+else-p-3+then-p-4 w ↦ simp (w.if-p.false, w.if-p-2.false, w.if-p-3.false, w.if-p-4.true)
      | then-p-via-else-p+else-p-2+else-p-3+else-p-4+then-p-5 w ↦ simp (w.if-p.false, w.if-p-2.false, w.if-p-3.false, w.if-p-4.false, w.if-p-5.true)
    ]

pub returns : goal.returns
unfolding params time_over of_bits
returns c =
    simp (c.if-p.false, c.if-p-2.false, c.if-p-3.false, c.if-p-4.false, c.if-p-5.false)
