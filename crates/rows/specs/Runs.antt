-- Runs of rows within every voice's segment.
use Rattle.std.specs.Prelude.{cond, List, ℕ, zero, suc, ◌-◌, ◌+◌, ◌≤◌, ◌<◌, min, max, eqb}
use Rattle.curve.specs.Segments.{untimed}
use Rattle.memory.specs.Memory.{left_at}

-- The fewest of `untimed`, the largest count, and what the first n voices have left. A timed left of 0 counts as 1.
abbrev pub until_end : ℕ → List ℕ → ℕ
until_end zero c = untimed
until_end (suc n) c = min (until_end n c) (max 1 (left_at c n))

-- What a count is, by its type: the largest is untimed.
abbrev pub Counts : ℕ → List ℕ → Type 0
Counts n c = (v : ℕ) → v < n → left_at c v ≤ untimed

-- What a segment has left after m frames.
unfoldable pub left_after : ℕ → ℕ → ℕ
left_after left m = cond (eqb left untimed) untimed (left - m)

-- The first of the n voices from v on whose segment has ended, or the one after them.
abbrev pub next_ended : ℕ → List ℕ → ℕ → ℕ
next_ended zero c v = v
next_ended (suc n) c v = cond (eqb (left_at c v) 0) v (next_ended n c (v + 1))
