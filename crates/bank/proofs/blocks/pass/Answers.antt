-- `pass`, by cases. Nothing is timed: nothing is counted, and that changes no voice (`none-timed`). The run is shorter than every segment: it is
-- counted down, and none ends (`none-ended`). It reaches an end: counting down and `follow` are two changes of every voice, one after the other
-- (`spread_then`).
use mathlib.Core.Path.{sym, ◌∙◌}
use Prim.Native.Nat.{◌<◌}
use native.Mathlib.Omega.{arith}
use Rattle.memory.specs.Memory.{timing_at}
use Rattle.rows.specs.Runs.{until_end}
use Rattle.bank.specs.Parts.{followed, lessened}
use Rattle.bank.proofs.Runs.{spread_then, less_spread, none-ended, none-timed}
use Rattle.bank.proofs.blocks.pass.Goals as goal

pub returns-then-end-eq-UNTIMED : goal.returns-then-end-eq-UNTIMED
returns-then-end-eq-UNTIMED c =
    let a = c.args in
    none-timed a.voices a.run a.m.now c.requires.0 (timing_at a.m.now.bends) c.requires.4 (sym c.requires.3 ∙ c.if-end-eq-UNTIMED.true)

pub returns-then-run-end : goal.returns-then-run-end
returns-then-run-end c =
    let a = c.args in
    let m = a.m.now in
    let t = timing_at a.m.now.bends in
    let F = c.count_down.ensures in
    spread_then (lessened a.run) (followed t) a.voices m _ _ (less_spread a.voices a.run m c.requires.0 _ F) c.follow.ensures

pub returns-else-run-end : goal.returns-else-run-end
returns-else-run-end c =
    let a = c.args in
    let m = a.m.now in
    let F = c.count_down.ensures in
    let before : a.run < until_end a.voices a.m.now.codes = omega (arith, c.if-run-end.false, c.requires.2, c.requires.3) in
    none-ended a.voices a.run m c.requires.0 _ F (timing_at a.m.now.bends) c.requires.1 before
