-- A new note's attack begins at the start level, so it joins its curve at place 0: its progress there is 0 / (1 - start), a zero, since 1 - start is
-- no zero for a start below 1; without progress the curve is at its beginning (`time_at_zero`), and a zero times the count rounds to 0. By cases on
-- the tests of `join_attack`.
use mathlib.Core.Path.{◌≡◌, refl}
use mathlib.Core.Bool.{Bool, true, false, ◌||◌, cond}
use Prim.Native.Nat.{ℕ, ◌*◌, ◌≤◌}
use native.Mathlib.Nat.{zero-lt-suc}
use native.Mathlib.Omega.{arith}
use lib.Dec.{T, lit≤}
use lib.Ieee.{Float, binary32, binary64, sub, div, lt, le, of_int}
use lib.Ieee.Scale.{finite}
use Rattle.numbers.specs.Constants.{one}
use Rattle.numbers.specs.Rounded.{◌⊗◌}
use Rattle.numbers.specs.Limits.{unit}
use Rattle.numbers.specs.Conversions.{round_u64}
use Rattle.numbers.specs.StandIns.{whole}
use Rattle.numbers.proofs.Laws.Zero.{sub_itself, zero-times, zero-over}
use Rattle.numbers.proofs.Laws.Sizes.{within_finite, round_within}
use Rattle.numbers.proofs.UnitInterval.{unit-fits, unit_range, distance-to-one}
use Rattle.numbers.proofs.Rounding.{zero_rounds}
use Rattle.timing.specs.declared.Timing.{Timing}
use Rattle.curve.specs.Curves.{bend, time_at}
use Rattle.curve.proofs.Start.{time_at_zero}
use Rattle.settings.specs.declared.settings.EnvelopeParams.{EnvelopeParams}
use Rattle.settings.specs.declared.stages.Stage.TheVariants.{Attack}
use Rattle.lane.specs.declared.lanes.Joined.{Joined}
use Rattle.lane.specs.Planning.{spec, join_attack}
use Rattle.lane.proofs.Counts.{largest, counted}

count_finite : (n : ℕ) → n ≤ largest → T (finite (whole n))
unfolding of_int
count_finite n h = within_finite 64 (whole n) (round_within binary64 false n 1 64 (zero-lt-suc 0) (lit≤ tt) (less n h))
  where
    less : (n : ℕ) → n ≤ 18446744073709551615 → n ≤ 18446744073709551616 * 1
    less n h = omega arith

-- At the start level, below 1, the curve has made no progress.
at-start : (p : EnvelopeParams) (c : Float) (n : ℕ) → n ≤ largest → le one (unit p.start) ≡ false
    → round_u64 (time_at (bend c) (div binary32 (sub binary32 (unit p.start) (unit p.start)) (sub binary32 one (unit p.start))) ⊗ whole n) ≡ 0
at-start p c n N h =
    let s = unit p.start in
    let i = unit_range p.start in
    let v = div binary32 (sub binary32 s s) (sub binary32 one s) in
    let x = time_at (bend c) v in
    zero_rounds (x ⊗ whole n)
    (zero-times binary64 x (whole n)
    (time_at_zero c v
    (zero-over binary32 (sub binary32 s s) (sub binary32 one s) (sub_itself binary32 s (within_finite 0 s i.1))
    (distance-to-one s (unit-fits p.start) i h)))
    (count_finite n N))

-- What join_attack answers with one test made twice.
chosen : (b c : Bool) (x y z : Joined) → x.pos ≡ 0 → (b ≡ false → z.pos ≡ 0) → (cond {A = Joined} (b || c) x (cond b y z)).pos ≡ 0
chosen true c x y z h k = h
chosen false true x y z h k = h
chosen false false x y z h k = k refl

pub new-note-place : (p : EnvelopeParams) (t : Timing) → (join_attack p (unit p.start) (spec p Attack t (unit p.start))).pos ≡ 0
unfolding join_attack spec
new-note-place p t =
    let s = unit p.start in
    let sp = spec p Attack t s in
    let x = time_at sp.k (div binary32 (sub binary32 s s) (sub binary32 one s)) in
    chosen (le one s) (lt s s) (record { from = s; pos = 0 }) (record { from = s; pos = sp.total })
    (record { from = s; pos = round_u64 (x ⊗ whole sp.total) }) refl
    (at-start p p.attack_curve sp.total (counted p t Attack s))
