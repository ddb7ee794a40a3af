-- `until_end`: voice after voice. Invariant: `run` is the definition's `until_end` of the voices so far.
use Rattle.std.proofs.Common.{◌≡◌}
use Rattle.rows.specs.Runs as Runs
use Rattle.rows.proofs.runs.until_end.Given as goal

abbrev pub invariant-loop-left : goal.invariant-loop-left
invariant-loop-left l = l.run ≡ Runs.until_end l.left-index l.c
