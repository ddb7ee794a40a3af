-- Numbers at equal distances in an array: how a struct's fields lie in it.
use Rattle.std.specs.Prelude.{List, [], ◌∷◌, ℕ, zero, suc, ◌+◌, ◌*◌, get_or, set}
use Rattle.filled.specs.Tables.{tabulate}

-- The place of number j, from place i on, `step` apart: i + step * j.
abbrev pub place : ℕ → ℕ → ℕ → ℕ
place step i zero = i
place step i (suc j) = i + step * suc j

module _ {A : Type 0} where
  -- n of them.
  abbrev pub spaced : A → ℕ → List A → ℕ → ℕ → List A
  spaced z step l i n = tabulate n (λ j. get_or l (place step i j) z)

  -- They are stored there, from number j on.
  abbrev pub puts_from : ℕ → ℕ → List A → ℕ → List A → List A
  puts_from j step l i [] = l
  puts_from j step l i (x ∷ xs) = puts_from (suc j) step (set l (place step i j) x) i xs

  abbrev pub puts : ℕ → List A → ℕ → List A → List A
  puts step l i xs = puts_from 0 step l i xs
