-- `until_end`: the minimum with one count more is the clause of the definition, once the slice's element is the array's.
use Rattle.std.proofs.Common.{◌≡◌, take, get_or-take, length-take, add-one, arith, get_or}
use Rattle.rows.proofs.runs.until_end.Goals as goal

pub loop-left-preserved : goal.loop-left-preserved
loop-left-preserved c =
    let i = c.loop-left.left-index in
    let n = c.count.result in
    let read : get_or (take n c.args.c.now) i 0 ≡ get_or c.args.c.now i 0 = get_or-take n c.args.c.now i 0 (omega (arith, length-take n c.args.c.now)) in
    rw (add-one i) (omega (arith, read))
