-- `names_twice`: number after number. Invariant (`Marked`): the first i are different, and the marks tell which of those below 64 are among them.
use Rattle.bank.proofs.Repeats.{Marked}
use Rattle.bank.proofs.chords.names_twice.Given as goal

abbrev pub invariant-loop-i : goal.invariant-loop-i
invariant-loop-i l = Marked l.voices l.i l.marked
