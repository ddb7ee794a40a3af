-- `bend`, `progress`, `time_at` and `segment`, as curve.rs has them: binary64, narrowed where a segment's numbers are made.
use Rattle.std.specs.Prelude.{ℕ, ◌+◌, Bool, false, cond, ◌||◌, Float}
use Rattle.std.proofs.Math.IntN as Int
use Rattle.std.specs.Float.{nan, inf, fin, binary32, binary64}
use Rattle.std.specs.Float.Ieee.{neg, sub, lt, eq, of_bits}
use Rattle.numbers.specs.Constants.{zero, one, two}
use Rattle.numbers.specs.Rounded.{◌⊕◌, ◌⊖◌, ◌⊗◌, ◌⊘◌}
use Rattle.numbers.specs.Limits.{unit, clamp}
use Rattle.numbers.specs.Conversions.{narrow}
use Rattle.numbers.specs.Counts.{saturated}
use Rattle.numbers.specs.StandIns.{whole, exp_m1, exp, ln1p, powi}
use Rattle.curve.specs.declared.segments.Segment.{Segment}
use Rattle.curve.specs.Segments.{constant}

-- MAX_BEND, 12.
abbrev pub max_bend : Float
max_bend = fin false 3 (Int.pos 2)

-- CHORD_BELOW, the binary64 nearest to 0.001.
abbrev pub chord_below : Float
chord_below = of_bits binary64 0x3f50_624d_d2f1_a9fc

-- MAX_SEGMENT, in samples.
abbrev pub max_segment : ℕ
max_segment = 16384

-- IEEE 754's abs: the sign cleared.
abbrev pub abs : Float → Float
abs nan = nan
abs (inf s) = inf false
abs (fin s m e) = fin false m e

-- 12 × (2 × curve - 1), of the curve limited to 0..1. Widening is exact, so it leaves the value as it is.
unfoldable pub bend : Float → Float
bend curve = max_bend ⊗ (two ⊗ unit curve ⊖ one)

-- (e^(-k x) - 1) / (e^(-k) - 1), or x for the bend 0.
unfoldable pub progress : Float → Float → Float
progress k x = cond (eq k zero) x (exp_m1 (neg k ⊗ x) ⊘ exp_m1 (neg k))

-- The x with progress v: -ln(1 + v (e^(-k) - 1)) / k, limited to 0..1.
unfoldable pub time_at : Float → Float → Float
time_at k v =
    let w = clamp v zero one in
    cond (eq k zero) w (clamp (neg (ln1p (w ⊗ exp_m1 (neg k))) ⊘ k) zero one)

-- The curve's level p samples in, of n.
unfoldable pub at : Float → Float → Float → Float → ℕ → Float
at from span k n p = from ⊕ span ⊗ progress k (whole p ⊘ n)

-- Straight if |k × len / n| < 0.001, or r = 1 after narrowing.
unfoldable pub is_straight : Float → Float → Bool
is_straight bent r = lt (abs bent) chord_below || eq r one

-- A segment from start to end in len samples: u counts up by 1.
unfoldable pub straight : Float → Float → ℕ → Segment
straight start end len =
    record { u = zero; r = one; d = one; scale = narrow ((end ⊖ start) ⊘ whole len); base = narrow start; left = len }

-- The same, bent: 1 + u is multiplied by r, so u ends at r^len - 1. r - 1 is binary32's.
unfoldable pub bent : Float → Float → Float → ℕ → Segment
bent start end r len =
    record { u = zero; r = r; d = sub binary32 r one; scale = narrow ((end ⊖ start) ⊘ (powi r len ⊖ one)); base = narrow start; left = len }

-- The segment of len samples, from pos on, of the curve from `from` to `to` over `total` samples with the bend k.
unfoldable pub segment : Float → Float → Float → ℕ → ℕ → ℕ → Segment
segment from to k total pos len =
    let span = to ⊖ from in
    let n = whole total in
    let start = at from span k n pos in
    let end = at from span k n (saturated (pos + len)) in
    let r = narrow (exp (neg k ⊘ n)) in
    cond (eq span zero) (constant from len) (cond (is_straight (k ⊗ whole len ⊘ n) r) (straight start end len) (bent start end r len))
