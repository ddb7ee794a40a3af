-- A row's lanes: document 01, 'The bank'.
use Rattle.std.specs.Prelude.{ℕ, ◌+◌, ◌*◌, ◌/◌, max}

-- Groups of 16 lanes that hold n voices, at least one.
abbrev pub groups_of : ℕ → ℕ
groups_of n = max 1 ((n + 15) / 16)

-- The levels of a row of n voices: sixteen for each group.
abbrev pub stride_of : ℕ → ℕ
stride_of n = 16 * groups_of n
