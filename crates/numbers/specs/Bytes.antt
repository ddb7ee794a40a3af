-- Whole numbers in bytes, the lowest first.
use Rattle.std.specs.Prelude.{ℕ, zero, suc, ◌+◌, ◌*◌, ◌/◌, ◌%◌, List, [], ◌∷◌, slice_index}

-- n bytes of a number.
abbrev pub lowest_first : ℕ → ℕ → List ℕ
lowest_first zero x = []
lowest_first (suc n) x = x % 256 ∷ lowest_first n (x / 256)

-- The number in n bytes from byte i on.
unfoldable pub number : ℕ → List ℕ → ℕ → ℕ
number zero l i = 0
number (suc n) l i = slice_index l i + 256 * number n l (suc i)
