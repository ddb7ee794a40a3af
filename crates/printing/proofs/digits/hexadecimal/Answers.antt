-- `hexadecimal`: from the last digit to the first. Invariant: the digits of what is left of the bits, then those from i on, are all of them.
use Rattle.std.proofs.Common.{arith}
use Rattle.printing.proofs.Numerals.{digit_more, digits_whole}
use Rattle.printing.proofs.digits.hexadecimal.Goals as goal

pub loop-i-preserved : goal.loop-i-preserved
loop-i-preserved c =
    let l = c.loop-i in
    digit_more _ l.digits l.i l.rest (omega arith) (omega arith) l.invariant

pub returns : goal.returns
returns c =
    let l = c.loop-i in
    digits_whole _ l.digits l.i l.rest (omega arith) l.invariant
