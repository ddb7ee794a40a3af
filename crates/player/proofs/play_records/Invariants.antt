-- `play_records`: an accepted list, record after record. Invariant (`Played`): the output up to `to` and the levels of the records to come are
-- together the list's levels, the output past `to` is as before, and the rest of the list passes the check. Measure: the bytes left.
use Prim.Native.Nat.{◌-◌}
use lib.ListN.{length}
use Rattle.bank.specs.Banks.{bank_of}
use Rattle.player.proofs.Progress.{Played}
use Rattle.player.proofs.play_records.Given as goal

abbrev pub invariant-loop-event : goal.invariant-loop-event
invariant-loop-event l = Played l.list l.initial.out l.out (bank_of l.bank.arrays) l.at l.to

abbrev pub decreases-loop-event : goal.decreases-loop-event
decreases-loop-event l = length l.list - l.at
