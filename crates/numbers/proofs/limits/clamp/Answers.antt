-- `clamp`: by its two tests, which are the definition's, each return is a case of it.
use Rattle.numbers.specs.Limits.{clamp}
use Rattle.numbers.proofs.limits.clamp.Goals as goal

pub returns-then-x-low : goal.returns-then-x-low
unfolding clamp
returns-then-x-low c = simp c.if-x-low.true

pub returns-then-x-high : goal.returns-then-x-high
unfolding clamp
returns-then-x-high c = simp (c.if-x-low.false, c.if-x-high.true)

pub returns-else-x-high : goal.returns-else-x-high
unfolding clamp
returns-else-x-high c = simp (c.if-x-low.false, c.if-x-high.false)
