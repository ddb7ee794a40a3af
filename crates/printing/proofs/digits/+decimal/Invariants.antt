-- `decimal`: the number shrinks.
use Rattle.printing.proofs.digits.+decimal.Given as goal

abbrev pub decreases-decimal : goal.decreases-decimal
decreases-decimal l = l.n
