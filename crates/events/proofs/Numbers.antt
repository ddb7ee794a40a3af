-- Numbers of two, four and eight bytes: the sum that std's conversions are stated by is the definition's, which recurses over the bytes. By linear
-- arithmetic.
use mathlib.Core.Path.{◌≡◌}
use mathlib.Core.List.{List}
use Prim.Native.Nat.{ℕ, ◌+◌, ◌*◌}
use native.Mathlib.Numerals.{add-one, add-two, add-three, add-four, add_five, add_six, add_seven}
use native.Mathlib.Omega.{arith}
use Rattle.numbers.specs.Bytes.{number}
use Rattle.events.specs.Format.{byte}

module _ (l : List ℕ) (i : ℕ) where
  pub two_bytes : byte l (i + 1) + byte l (i + 2) * 256 ≡ number 2 l (i + 1)
  unfolding number
  two_bytes = simp (add-one, add-two) (omega arith)

  pub four_bytes : byte l i + byte l (i + 1) * 256 + byte l (i + 2) * 65536 + byte l (i + 3) * 16777216 ≡ number 4 l i
  unfolding number
  four_bytes = simp (add-one, add-two, add-three) (omega arith)

  pub eight_bytes
      : byte l i + byte l (i + 1) * 256 + byte l (i + 2) * 65536 + byte l (i + 3) * 16777216
      + byte l (i + 4) * 4294967296 + byte l (i + 5) * 1099511627776 + byte l (i + 6) * 281474976710656 + byte l (i + 7) * 72057594037927936
      ≡ number 8 l i
  unfolding number
  eight_bytes = simp (add-one, add-two, add-three, add-four, add_five, add_six, add_seven) (omega arith)
