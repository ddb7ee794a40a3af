-- `next_ended`: voice after voice. Invariant: v is at most the number of voices, or `first` if that is more, and the definition's search from v on
-- has the answer of the search from `first` on.
use Rattle.std.proofs.Common.{◌≡◌, ◌-◌, ◌≤◌, max}
use Rattle.rows.specs.Runs as Runs
use Rattle.rows.proofs.runs.next_ended.Given as goal

abbrev pub invariant-loop-v : goal.invariant-loop-v
invariant-loop-v l = (l.v ≤ max l.end l.first) × (Runs.next_ended (l.end - l.first) l.c l.first ≡ Runs.next_ended (l.end - l.v) l.c l.v)
