-- `with_all`: voice after voice. Invariant: the first v are changed, and every other number is as before (`Spread`).
use Rattle.bank.specs.Parts.{changed, Spread}
use Rattle.bank.proofs.changes.with_all.Given as goal

abbrev pub invariant-loop-v : goal.invariant-loop-v
invariant-loop-v l = Spread (changed l.timing l.by) l.v l.initial.m l.m
