-- `row_of`, for bytes: level after level. Invariant: the row keeps its 64 bytes, and those of the first i levels are in their places.
use Rattle.std.proofs.Common.{◌≡◌, ℕ, ◌*◌, ◌<◌, length, get_or}
use Rattle.std.specs.Float.{nan}
use Rattle.rows.specs.Rows.{byte_cell}
use Rattle.rows.proofs.lanes.places.U8Place64.row_of.Given as goal

abbrev pub invariant-loop-i : goal.invariant-loop-i
invariant-loop-i l = (length l.row ≡ 64) × ((c : ℕ) → c < 4 * l.i → get_or l.row c 0 ≡ byte_cell (λ i. get_or l.y i nan) c)
