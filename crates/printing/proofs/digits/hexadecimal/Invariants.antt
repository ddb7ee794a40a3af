-- `hexadecimal`: from the last digit to the first. Invariant: the digits of what is left of the bits, then those from i on, are all of them.
use Rattle.printing.specs.Digits.{hexadecimal}
use Rattle.printing.proofs.Numerals.{Digits}
use Rattle.printing.proofs.digits.hexadecimal.Given as goal

abbrev pub invariant-loop-i : goal.invariant-loop-i
invariant-loop-i l = Digits (hexadecimal 8 l.bits) l.digits l.i l.rest
