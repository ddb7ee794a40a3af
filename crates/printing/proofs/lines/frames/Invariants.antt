-- `frames`: frame after frame. Invariant: the lines of the frames before k are put.
use Rattle.printing.specs.Lines as Lines
use Rattle.printing.proofs.Writing.{Put}
use Rattle.printing.proofs.lines.frames.Given as goal

abbrev pub invariant-loop-k : goal.invariant-loop-k
invariant-loop-k l = Put (Lines.frames (Lines.bits_in l.out) l.voices l.stride l.k) l.initial.to l.to l.at
