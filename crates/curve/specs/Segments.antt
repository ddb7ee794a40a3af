-- Segments: five binary32 numbers and a count. The formula of a level and the recurrence of u are said here, once each.
use Rattle.std.specs.Prelude.{◌≡◌, cond, ℕ, zero, suc, ◌≤◌, min, max, eqb, Float}
use Rattle.std.specs.Float.{binary32}
use Rattle.std.specs.Float.Ieee.{add, mul}
use Rattle.numbers.specs.Constants as Constants
use Rattle.numbers.specs.Constants.{one}
use Rattle.curve.specs.declared.segments.Segment.{Segment}

-- `u32::MAX` in left means untimed (Idle, Sustain).
abbrev pub untimed : ℕ
untimed = 4294967295

-- A level that stays, for `left` samples.
abbrev pub constant : Float → ℕ → Segment
constant level left = record { u = Constants.zero; r = one; d = Constants.zero; scale = Constants.zero; base = level; left = left }

-- A level: u × scale + base, in binary32, the product rounded and then the sum.
abbrev pub level_from : Float → Float → Float → Float
level_from u scale base = add binary32 (mul binary32 u scale) base

-- The recurrence, u one sample on: u × r + d, likewise.
abbrev pub next_u : Float → Float → Float → Float
next_u u r d = add binary32 (mul binary32 u r) d

-- A segment's level.
unfoldable pub level : Segment → Float
level g = level_from g.u g.scale g.base

-- u after n samples.
abbrev pub u_after : ℕ → Float → Float → Float → Float
u_after zero u r d = u
u_after (suc n) u r d = u_after n (next_u u r d) r d

-- How many of the next `most` samples a segment with `left` left draws. A timed left of 0 counts as 1.
unfoldable pub run_length : ℕ → ℕ → ℕ
run_length left most = cond (eqb left untimed) most (min most (max 1 left))

-- m samples do not pass the end of a segment with `left` left.
abbrev pub Inside : ℕ → ℕ → Type 0
Inside m left = (left ≤ untimed) × ((left ≡ untimed → ⊥) → m ≤ max 1 left)
