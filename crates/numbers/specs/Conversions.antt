-- binary64 to binary32 and to a whole number. Written from document 01, 'Number helpers', and IEEE 754.
use Rattle.std.specs.Prelude.{ℕ, suc, ◌-◌, ◌*◌, ◌/◌, ◌%◌, ◌^◌, min, cond, nat_lt, Float}
use Rattle.std.specs.Float.{nan, inf, fin, binary32}
use Rattle.std.specs.Float.Ieee.{up, down, round}

-- Narrowing binary64 to binary32: to the nearest, ties to even, subnormals included.
unfoldable pub narrow : Float → Float
narrow nan = nan
narrow (inf s) = inf s
narrow (fin s m e) = round binary32 s (m * up e) (down e)

-- The whole number nearest to a / c, a half up: the truncated quotient, or one more where the remainder is a half or over. Both are whole numbers, so
-- nothing is rounded on the way.
abbrev pub nearest_whole : ℕ → ℕ → ℕ
nearest_whole a c = cond (nat_lt (a % c * 2) c) (a / c) (suc (a / c))

-- Rust's `x.round() as u64`: to the nearest whole number, halves away from zero. NaN and what is negative give 0;
-- what is too large saturates at the largest u64.
unfoldable pub round_u64 : Float → ℕ
round_u64 nan = 0
round_u64 (inf s) = cond s 0 (2 ^ 64 - 1)
round_u64 (fin s m e) = cond s 0 (min (nearest_whole (m * up e) (down e)) (2 ^ 64 - 1))
