-- `voices`: the count that the arrays hold is the bank's number of voices (`size_of`).
use mathlib.Core.Path.{sym, ◌∙◌}
use Rattle.bank.proofs.Representation.{size_of}
use Rattle.bank.proofs.banks.Bank.voices.Goals as goal

pub returns : goal.returns
returns c = let a = c.args in c.voices.ensures ∙ sym (size_of a.self.now.arrays)
