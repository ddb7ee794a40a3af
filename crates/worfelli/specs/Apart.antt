-- A bank whose four arrays lie apart.
use Rattle.std.specs.Prelude.{ℕ, List, Float}
use Rattle.memory.specs.declared.arrays.Arrays.{Arrays}

-- The arrays that they are together.
abbrev pub arrays : List Float → List Float → List ℕ → List ℕ → Arrays
arrays floats bends counts codes = record { floats = floats; bends = bends; counts = counts; codes = codes }
