-- `decimal`: the number's higher digits, then the last one.
use Rattle.std.proofs.Common.{sym, arith}
use Rattle.std.proofs.lemmas.Fmt.{decimal_step}
use Rattle.printing.proofs.Numerals.{last_alone}
use Rattle.printing.proofs.Writing.{and_then, renamed}
use Rattle.printing.proofs.digits.+decimal.Goals as goal

pub returns-then-n-lt10 : goal.returns-then-n-lt10
returns-then-n-lt10 t c = renamed _ c.put.ensures (sym (last_alone c.args.n (omega arith)))

pub returns : goal.returns
returns t c = renamed _ (and_then _ _ c.decimal-at.ensures _ c.put-2.ensures) (sym (decimal_step c.args.n (omega arith) (omega arith)))
