-- `refusal`: words and numbers one after the other.
use Rattle.std.proofs.Common.{ap}
use Rattle.std.specs.Fmt.{decimal}
use Rattle.printing.proofs.Writing.{and_then, renamed}
use Rattle.printing.proofs.lines.refusal.Goals as goal

pub returns : goal.returns
returns c =
    let number = renamed _ c.decimal-at.ensures (ap decimal c.number.ensures) in
    and_then _ _ (and_then _ _ (and_then _ _ (and_then _ _ c.put-at.ensures _ number) _ c.put-at-2.ensures) _ c.decimal-at-2.ensures) _ c.put.ensures
