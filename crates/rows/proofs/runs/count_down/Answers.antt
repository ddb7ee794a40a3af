-- `count_down`: an iteration takes the run off one count more (`filled_more`); the count that it reads is the old one, since the iterations before it
-- wrote others.
use Rattle.std.proofs.Common.{◌≡◌, ◌∙◌, ap, ℕ, take, get_or, get_or-take, length-take, arith}
use Rattle.filled.proofs.Filling.{filled_more}
use Rattle.rows.specs.Runs.{left_after}
use Rattle.rows.proofs.runs.count_down.Goals as goal

pub loop-left-preserved : goal.loop-left-preserved
loop-left-preserved c =
    let a = c.args in
    let l = c.loop-left in
    let i = l.left-index in
    let n = c.count.result in
    let old : get_or l.left-items i 0 ≡ get_or a.c.now i 0 =
    l.invariant.after i (omega arith) ∙ get_or-take n a.c.now i 0 (omega (arith, length-take n a.c.now))
    in
    filled_more 0 _ 0 i (take n a.c.now) l.left-items _ (omega arith) (omega arith) (c.left_after.ensures ∙ ap (λ (x : ℕ). left_after x a.run) old) l.invariant
