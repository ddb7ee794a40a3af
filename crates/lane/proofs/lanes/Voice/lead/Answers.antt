-- `lead`: 0 where no Sustain is ahead; else the rest of the present stage and the stages after it. A sum that saturates at each step is the sum
-- saturated once (`plain`).
use mathlib.Core.Path.{◌≡◌}
use Prim.Native.Nat.{ℕ, ◌+◌}
use native.Mathlib.Omega.{arith}
use Rattle.numbers.specs.Counts.{saturated}
use Rattle.lane.specs.Readings.{lead, rest}
use Rattle.lane.proofs.lanes.Voice.lead.Goals as goal

plain : (a b c : ℕ) → saturated (saturated (a + b) + saturated c) ≡ saturated (a + b + c)
plain a b c = omega arith

pub returns-then-not-is_before_sustain : goal.returns-then-not-is_before_sustain
unfolding lead
returns-then-not-is_before_sustain c = simp (simp c.is_before_sustain.ensures at c.if-not-is_before_sustain.true)

pub returns : goal.returns
unfolding lead rest
returns c =
    simp (
      simp c.is_before_sustain.ensures at c.if-not-is_before_sustain.false,
      c.saturating_add.ensures,
      c.stages_last.ensures,
      c.next.ensures,
      c.saturating_add-present.ensures,
      c.saturating_sub-rest.ensures,
      c.saturating_sub-drawn.ensures,
    ) (plain _ _ _)
