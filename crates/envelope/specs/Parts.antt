-- What the private functions that draw promise each other. No public statement cites this file.
use Rattle.std.specs.Prelude.{ℕ, Float}
use Rattle.curve.specs.declared.segments.Segment.{Segment}
use Rattle.curve.specs.Segments.{level_from, u_after}

-- The level of a segment k samples on.
abbrev pub level_after : Segment → ℕ → Float
level_after g k = level_from (u_after k g.u g.r g.d) g.scale g.base
