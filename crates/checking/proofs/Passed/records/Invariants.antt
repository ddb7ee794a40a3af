-- `Passed::records`: record after record. Invariant (`Left`): there are at most 64 voices and the output holds the frames so far, and the
-- definition's check, run from here with steps enough for the bytes left, comes to what it comes to from the first record. Measure: the bytes left.
use Prim.Native.Nat.{◌-◌}
use lib.ListN.{length}
use Rattle.checking.proofs.Passing.{Left}
use Rattle.checking.proofs.Passed.records.Given as goal

abbrev pub invariant-loop-self : goal.invariant-loop-self
invariant-loop-self l = Left l.list l.room l.initial.self l.self

abbrev pub decreases-loop-self : goal.decreases-loop-self
decreases-loop-self l = length l.list - l.self.at
