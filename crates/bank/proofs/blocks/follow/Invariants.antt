-- `follow`: from one voice that has ended to the next. Invariant (`Following`): the voices before v have been followed, every other number is as it
-- was, and v is either the next voice that has ended or the number of voices. Measure: the voices from v on.
use Prim.Native.Nat.{◌-◌}
use Rattle.bank.proofs.Runs.{Following}
use Rattle.bank.proofs.blocks.follow.Given as goal

abbrev pub invariant-loop-v : goal.invariant-loop-v
invariant-loop-v l = Following l.timing l.voices l.initial.m l.v l.m

abbrev pub decreases-loop-v : goal.decreases-loop-v
decreases-loop-v l = l.voices - l.v
