-- `stages_last`: stage after stage. Invariant: the sum so far is a u64, and with the lengths of the stages from the present one on it is the sum of
-- all of them. Measure: the timed stages from the present one on.
use mathlib.Core.Path.{◌≡◌}
use Prim.Native.Nat.{◌+◌, ◌≤◌}
use Rattle.numbers.specs.Counts.{saturated}
use Rattle.lane.specs.Readings.{last_from}
use Rattle.settings.specs.Stages.{timed_stages}
use Rattle.lane.proofs.voices.stages_last.Given as goal

abbrev pub invariant-loop-p : goal.invariant-loop-p
invariant-loop-p l =
    (l.sum ≤ 18446744073709551615)
    × (saturated (l.sum + last_from (timed_stages l.stage) l.p l.timing l.stage l.level) ≡ saturated (last_from (timed_stages l.initial.stage) l.p l.timing l.initial.stage l.initial.level))

abbrev pub decreases-loop-p : goal.decreases-loop-p
decreases-loop-p l = timed_stages l.stage
