-- Hexadecimal digits, in ASCII. Decimal ones are the library's, `decimal`: what `{}` writes of a number.
use Rattle.std.specs.Prelude.{ℕ, zero, suc, ◌/◌, ◌%◌, List, [], ◌∷◌, ◌++◌, codes, slice_index}

abbrev pub digit : ℕ → ℕ
digit d = slice_index (codes "0123456789abcdef") d

-- The last k digits of a number, the highest first.
unfoldable pub hexadecimal : ℕ → ℕ → List ℕ
hexadecimal zero n = []
hexadecimal (suc k) n = hexadecimal k (n / 16) ++ digit (n % 16) ∷ []
