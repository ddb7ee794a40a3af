-- `next_ended`: an iteration passes a voice that has not ended, and the definition's search from it on is that from the next one on (`next_on`).
use Rattle.std.proofs.Common.{◌≡◌, ap, ◌∙◌, ℕ, ◌+◌, ◌-◌, ◌<◌, arith}
use Rattle.rows.specs.Runs as Runs
use Rattle.rows.proofs.WithinRuns.{next_on}
use Rattle.rows.proofs.runs.next_ended.Goals as goal

pub loop-v-preserved : goal.loop-v-preserved
loop-v-preserved c =
    let a = c.args in
    let l = c.loop-v in
    let more : 0 < c.count-end.result - l.v = omega (arith, c.loop-v-test.true) in
    let less : c.count-end.result - l.v - 1 ≡ c.count-end.result - (l.v + 1) = omega arith in (
      omega arith,
      l.invariant.1
          ∙ next_on (c.count-end.result - l.v) a.c.now l.v more c.if-c-v-eq0.false
          ∙ ap (λ (m : ℕ). Runs.next_ended m a.c.now (l.v + 1)) less,
    )
