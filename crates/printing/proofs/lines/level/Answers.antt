-- `level`: a space, then the digits.
use Rattle.std.proofs.Common.{ℕ, List, ◌∷◌, ap}
use Rattle.printing.proofs.Writing.{and_then, renamed}
use Rattle.printing.proofs.lines.level.Goals as goal

pub returns : goal.returns
returns c = renamed _ (and_then _ _ c.put-at.ensures _ c.put.ensures) (ap (λ (x : List ℕ). 32 ∷ x) c.hexadecimal.ensures)
