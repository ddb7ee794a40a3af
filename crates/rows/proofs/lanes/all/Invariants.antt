-- `all`: number after number, without an early exit. Invariant: if the flag is still set, the first i numbers pass the test. Nothing is claimed where
-- it is not set.
use Rattle.std.proofs.Common.{◌≡◌, ℕ, ◌+◌, ◌<◌, true, get_or}
use Rattle.std.specs.Float.{nan}
use Rattle.rows.proofs.lanes.all.Given as goal

abbrev pub invariant-loop-i : goal.invariant-loop-i
invariant-loop-i g l = l.so_far ≡ true → (j : ℕ) → j < l.i → goal.T-post g l.test (get_or l.f (l.from + j) nan) true
