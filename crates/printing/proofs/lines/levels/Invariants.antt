-- `levels`: voice after voice. Invariant: the levels before v are put.
use Rattle.printing.specs.Lines as Lines
use Rattle.printing.specs.Text as Text
use Rattle.printing.proofs.Writing.{Put}
use Rattle.printing.proofs.lines.levels.Given as goal

abbrev pub invariant-loop-v : goal.invariant-loop-v
invariant-loop-v l = Put (Text.each l.v (λ v. Lines.level (Lines.bits_in l.bytes v))) l.initial.to l.to l.at
