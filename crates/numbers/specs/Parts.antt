-- What the private functions promise each other. No public statement cites this file.
use Rattle.std.specs.Prelude.{◌≡◌, ℕ, ◌+◌, ◌^◌, ◌<◌, Bool, cond, from_bits}
use Rattle.std.specs.Float.{binary32, binary64}
use Rattle.std.specs.Float.Ieee.{of_fields}
use Rattle.numbers.specs.Conversions.{narrow}

-- r is the pattern, without its sign, of the binary32 nearest to the binary64 with the exponent field e and the digits t.
pub record Narrowed (e t r : ℕ) : Type 0 where
  pub small : r < 2 ^ 31
  pub is : (s : Bool) → from_bits binary32 (cond s (2 ^ 31) 0 + r) ≡ narrow (of_fields binary64 s e t)
