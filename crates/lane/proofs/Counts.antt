-- How long a stage can be: below 2^64 samples by any settings, and at most 659,706,976,665,600 under document 01's limits (`samples_le`). By cases on
-- the stage.
use mathlib.Core.Path.{◌≡◌, refl}
use mathlib.Core.Bool.{Bool, true, false, ◌||◌, true≢false}
use Prim.Native.Nat.{ℕ, ◌*◌, ◌≤◌, min}
use native.Mathlib.Omega.{arith}
use lib.Ieee.{Float, nan, inf, fin, up, down}
use Rattle.numbers.specs.Conversions.{nearest_whole, round_u64}
use Rattle.timing.specs.declared.Timing.{Timing}
use Rattle.timing.specs.declared.TimeUnit.{TimeUnit}
use Rattle.timing.specs.Samples.{samples, product, over}
use Rattle.timing.proofs.Counts.{samples_le}
use Rattle.settings.specs.declared.settings.EnvelopeParams.{EnvelopeParams}
use Rattle.settings.specs.declared.stages.Stage.{Stage}
use Rattle.settings.specs.declared.stages.Stage.TheVariants.{Idle, Delay, Attack, Hold, Decay, Sustain, Release}
use Rattle.settings.specs.Refusals.{time_over, rate_over}
use Rattle.lane.specs.Planning.{spec}

-- The largest u64, at which the definitions' sums saturate.
abbrev pub largest : ℕ
largest = 18446744073709551615

-- No stage is longer than B.
abbrev pub Counted : ℕ → EnvelopeParams → Timing → Type 0
Counted B p t = (s : Stage) (ℓ : Float) → (spec p s t ℓ).total ≤ B

samples-fit : (t : Timing) (x : Float) (u : TimeUnit) → samples t x u ≤ largest
unfolding samples round_u64
samples-fit t x u = go (product t x u)
  where
    min_le : (a b : ℕ) → min a b ≤ b
    min_le a b = omega arith

    go : (y : Float) → round_u64 y ≤ largest
    go nan = omega arith
    go (inf true) = omega arith
    go (inf false) = omega arith
    go (fin true m e) = omega arith
    go (fin false m e) = min_le (nearest_whole (m * up e) (down e)) largest

counted_by : (B : ℕ) (p : EnvelopeParams) (t : Timing)
    → samples t p.delay p.unit ≤ B
    → samples t p.attack p.unit ≤ B
    → samples t p.hold p.unit ≤ B
    → samples t p.decay p.unit ≤ B
    → samples t p.release p.unit ≤ B
    → Counted B p t
unfolding spec
counted_by B p t d a h c r Idle ℓ = omega arith
counted_by B p t d a h c r Delay ℓ = d
counted_by B p t d a h c r Attack ℓ = a
counted_by B p t d a h c r Hold ℓ = h
counted_by B p t d a h c r Decay ℓ = c
counted_by B p t d a h c r Sustain ℓ = omega arith
counted_by B p t d a h c r Release ℓ = r

pub counted : (p : EnvelopeParams) (t : Timing) → Counted largest p t
counted p t =
    counted_by largest p t (samples-fit t p.delay p.unit) (samples-fit t p.attack p.unit) (samples-fit t p.hold p.unit)
    (samples-fit t p.decay p.unit) (samples-fit t p.release p.unit)

or_false : (a b : Bool) → a || b ≡ false → (a ≡ false) × (b ≡ false)
or_false true b e = absurd (true≢false e)
or_false false b e = (refl, e)

-- The largest count under the limits.
abbrev pub most : ℕ
most = 659706976665600

pub counted_limited : (p : EnvelopeParams) (t : Timing) → time_over p ≡ false → rate_over t ≡ false → Counted most p t
unfolding time_over rate_over
counted_limited p t e f =
    let (e₁, r) = or_false (over p.delay || over p.attack || over p.hold || over p.decay) (over p.release) e in
    let (e₂, c) = or_false (over p.delay || over p.attack || over p.hold) (over p.decay) e₁ in
    let (e₃, h) = or_false (over p.delay || over p.attack) (over p.hold) e₂ in
    let (d, a) = or_false (over p.delay) (over p.attack) e₃ in
    counted_by most p t (samples_le t p.delay p.unit d f) (samples_le t p.attack p.unit a f)
    (samples_le t p.hold p.unit h f) (samples_le t p.decay p.unit c f) (samples_le t p.release p.unit r f)
