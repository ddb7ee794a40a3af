-- Document 01: under its limits a count is at most 659,706,976,665,600, which is 2^20 beats of 60 seconds, 10 times as long, at 2^20 samples per
-- second. Each factor is bounded, by cases on the float; the product of the bounds is below 2^53, so that rounding keeps it (`mul_upto`), and so does
-- the rounding to a count (`rounded_le`).
use mathlib.Core.Path.{◌≡◌, refl}
use mathlib.Core.Bool.{Bool, true, false, not, cond}
use Prim.Native.Nat.{ℕ, ◌+◌, ◌*◌, ◌^◌, ◌≤◌, ◌<◌}
use native.Mathlib.Omega.{arith}
use lib.IntN.{pos, negsuc}
use lib.Dec.{T, ltb, nltb→le, lit≤}
use lib.Ieee.{Float, nan, inf, fin, binary64, up, down, mul, lt, of_bits}
use lib.Ieee.Fits.{down_pos}
use Rattle.numbers.specs.Constants.{zero, one}
use Rattle.numbers.specs.Limits.{max, clamp}
use Rattle.numbers.proofs.Laws.Bounds.{Below, Upto, below_more, mul-below, mul_upto, div_below, max-zero, max-one, not_over}
use Rattle.numbers.proofs.Rounding.{rounded_le}
use Rattle.timing.specs.declared.Timing.{Timing}
use Rattle.timing.specs.declared.TimeUnit.{TimeUnit}
use Rattle.timing.specs.declared.TimeUnit.TheVariants.{Milliseconds, Tempo}
use Rattle.timing.specs.Samples.{seconds, product, samples, over, sixty, thousand, min_scale, max_scale}

seconds-below : (value : Float) (unit : TimeUnit) (tempo : Float) → over value ≡ false → Below (2 ^ 20 * 60) (seconds value unit tempo)
unfolding seconds
seconds-below value Tempo tempo h =
    div_below (mul binary64 value sixty) (max tempo one) (2 ^ 20 * 60) (lit≤ tt)
    (mul-below value 14 (pos 2) (2 ^ 20) 60 (lit≤ tt) (not_over 20 value h) (lit≤ tt)) (max-one tempo)
seconds-below value Milliseconds tempo h =
    div_below value thousand (2 ^ 20 * 60) (lit≤ tt) (below_more (2 ^ 20) (2 ^ 20 * 60) value (lit≤ tt) (not_over 20 value h)) (refl, lit≤ tt)

scale_upto : (x : Float) → Upto 10 (clamp x min_scale max_scale)
unfolding clamp lt of_bits
scale_upto nan = tt
scale_upto (inf true) = lit≤ tt
scale_upto (inf false) = lit≤ tt
scale_upto (fin true m e) = go (ltb 0 (m * up e * 36028797018963968 + 3602879701896397 * down e)) (nltb→le 0 (m * up e * 36028797018963968 + 3602879701896397 * down e))
  where
    some : (a b : ℕ) → 0 < b → a * 36028797018963968 + 3602879701896397 * b ≤ 0 → ⊥
    some a b h k = omega arith

    go : (t : Bool) → (T (not t) → m * up e * 36028797018963968 + 3602879701896397 * down e ≤ 0)
        → Upto 10 (cond t (fin false 3602879701896397 (negsuc 54)) (fin true m e))
    go true p = lit≤ tt
    go false p = absurd (some (m * up e) (down e) (down_pos e) (p tt))
scale_upto (fin false m e) = go (ltb (m * up e * 36028797018963968) (3602879701896397 * down e)) (ltb (10 * down e) (m * up e * 1)) (nltb→le (10 * down e) (m * up e * 1))
  where
    tidy : (a b : ℕ) → a * 1 ≤ 10 * b → a ≤ 10 * b
    tidy a b h = omega arith

    go : (t u : Bool) → (T (not u) → m * up e * 1 ≤ 10 * down e) → Upto 10 (cond t (fin false 3602879701896397 (negsuc 54)) (cond u max_scale (fin false m e)))
    go true u p = lit≤ tt
    go false true p = lit≤ tt
    go false false p = tidy (m * up e) (down e) (p tt)

pub samples_le : (t : Timing) (value : Float) (unit : TimeUnit) → over value ≡ false → over t.sample_rate ≡ false → samples t value unit ≤ 659706976665600
unfolding samples product
samples_le t value unit h k =
    let time = max (seconds value unit t.tempo) zero in
    let scale = clamp t.scale min_scale max_scale in
    let rate = max t.sample_rate zero in
    rounded_le (mul binary64 (mul binary64 time scale) rate) 659706976665600
    (mul_upto (mul binary64 time scale) rate 629145600 (2 ^ 20) (lit≤ tt)
    (mul_upto time scale 62914560 10 (lit≤ tt) (max-zero (seconds value unit t.tempo) 62914560 (seconds-below value unit t.tempo h)) (scale_upto t.scale))
    (max-zero t.sample_rate (2 ^ 20) (not_over 20 t.sample_rate k)))
