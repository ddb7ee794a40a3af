-- Text in a lent slice.
use Rattle.std.specs.Prelude.{ℕ, zero, suc, List, [], ◌++◌, length, take, drop, min}

-- What a slice holds after a text was put into it from its first byte on: what finds no room is left out, and what is past the text is kept.
unfoldable pub put : List ℕ → List ℕ → List ℕ
put text old = take (length old) text ++ drop (length text) old

-- How many bytes of the text it holds then.
abbrev pub bytes_put : List ℕ → List ℕ → ℕ
bytes_put text old = min (length text) (length old)

-- The parts 0 to n - 1, one after the other.
abbrev pub each : ℕ → (ℕ → List ℕ) → List ℕ
each zero part = []
each (suc n) part = each n part ++ part n
