-- `fill`: voice after voice. Invariant: the first v are the voice that was given, and every other number is as before (`Spread`).
use Rattle.bank.specs.Parts.{Spread}
use Rattle.bank.proofs.opening.fill.Given as goal

abbrev pub invariant-loop-v : goal.invariant-loop-v
invariant-loop-v l = Spread (λ _. l.voice) l.v l.initial.m l.m
