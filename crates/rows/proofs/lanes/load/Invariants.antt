-- `load`: sixteen numbers of the array, copied. Invariant: the first i are those from `from` on.
use Rattle.std.proofs.Common.{◌≡◌, ℕ, ◌+◌, ◌<◌, length, get_or}
use Rattle.std.specs.Float.{nan}
use Rattle.rows.proofs.lanes.load.Given as goal

abbrev pub invariant-loop-i : goal.invariant-loop-i
invariant-loop-i l = (length l.x ≡ 16) × ((k : ℕ) → k < l.i → get_or l.x k nan ≡ get_or l.f (l.from + k) nan)
