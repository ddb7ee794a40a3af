-- `levels`: lane after lane. Invariant: the first i levels are those of the lanes.
use Rattle.std.proofs.Common.{◌≡◌, ℕ, ◌<◌, length, get_or}
use Rattle.std.specs.Float.{nan}
use Rattle.rows.specs.Rows.{levels_at}
use Rattle.rows.proofs.lanes.Lanes.levels.Given as goal

abbrev pub invariant-loop-i : goal.invariant-loop-i
invariant-loop-i l = (length l.y ≡ 16) × ((k : ℕ) → k < l.i → get_or l.y k nan ≡ levels_at l.self.u l.self.scale l.self.base k)
