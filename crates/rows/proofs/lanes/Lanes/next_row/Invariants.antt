-- `next_row`: lane after lane. Invariant: the first i levels are those of the lanes, u is one row on in the first i lanes and as before in the
-- others, and r, d, scale and base are as before.
use Rattle.std.proofs.Common.{◌≡◌, ℕ, ◌<◌, length, get_or}
use Rattle.std.specs.Float.{nan}
use Rattle.filled.specs.Filled.{Filled}
use Rattle.rows.specs.Rows.{levels_at, steps_at}
use Rattle.rows.proofs.lanes.Lanes.next_row.Given as goal

abbrev pub invariant-loop-i : goal.invariant-loop-i
invariant-loop-i l = let was = l.initial.self in record {
  long : length l.y ≡ 16;
  levels : (k : ℕ) → k < l.i → get_or l.y k nan ≡ levels_at was.u was.scale was.base k;
  moved : Filled nan (steps_at was.u was.r was.d) 0 l.i was.u l.self.u;
  r : l.self.r ≡ was.r;
  d : l.self.d ≡ was.d;
  scale : l.self.scale ≡ was.scale;
  base : l.self.base ≡ was.base;
}
