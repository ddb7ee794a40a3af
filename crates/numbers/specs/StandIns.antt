-- The stand-ins of document 01 for exp_m1, exp, ln_1p and powi: all binary64, each operation rounded once.
use Rattle.std.specs.Prelude.{ℕ, zero, suc, ◌+◌, ◌-◌, ◌*◌, ◌/◌, ◌%◌, ◌^◌, cond, ◌&&◌, ℤ, pos, ◌+ℤ◌, ◌==◌, Float}
use Rattle.std.specs.Float.{nan, inf, fin, binary64}
use Rattle.std.specs.Float.Ieee.{minus, size, lt, le, eq, of_int}
use Rattle.std.specs.Float.Ieee.Scale.{finite}
use Rattle.numbers.specs.Rounded.{◌⊕◌, ◌⊖◌, ◌⊗◌, ◌⊘◌}
use Rattle.numbers.specs.Constants as Constants
use Rattle.numbers.specs.Constants.{half, one, one_and_half, two, sixty_four, ln2}

-- A whole number as a binary64.
abbrev pub whole : ℕ → Float
whole n = of_int binary64 (pos n)

-- ---- E(z), in place of exp_m1

-- t = 1 + (w × t) / j, for j = n + 1 down to 2.
unfoldable pub exp_series : ℕ → Float → Float → Float
exp_series zero w t = t
exp_series (suc n) w t = exp_series n w (one ⊕ (w ⊗ t) ⊘ whole (suc (suc n)))

-- n times y = y × (y + 2), which takes e^x - 1 to e^2x - 1.
unfoldable pub doublings : ℕ → Float → Float
doublings zero y = y
doublings (suc n) y = doublings n (y ⊗ (y ⊕ two))

-- w = z / 64; t = 1; the series for j = 12 down to 2; y = w × t; six doublings.
unfoldable pub exp_m1 : Float → Float
exp_m1 z = let w = z ⊘ sixty_four in doublings 6 (w ⊗ exp_series 11 w one)

-- E(z) + 1.
unfoldable pub exp : Float → Float
exp z = exp_m1 z ⊕ one

-- ---- powi

-- For each of the n lowest bits of len, from the higher to the lower: p = p × p, then p = p × r if that bit is one.
unfoldable pub pow_bits : ℕ → Float → ℕ → Float → Float
pow_bits zero r len p = p
pow_bits (suc n) r len p = pow_bits n r len (cond (len / 2 ^ n % 2 == 1) ((p ⊗ p) ⊗ r) (p ⊗ p))

-- p = r, then the bits of len below its highest one bit. A len of 0 has none, so it answers r.
unfoldable pub powi : Float → ℕ → Float
powi r len = pow_bits (size len - 1) r len r

-- ---- L(a), in place of ln_1p

-- w = m × 2^e with 1 ≤ m < 2, for a finite w above 0: its m, and its e. The whole number of `fin s m e` has `size m` digits,
-- so its leading one stands for 2^(size m - 1); `normalised` in proofs/Significand.antt shows the rest.
unfoldable pub significand : Float → Float
significand nan = nan
significand (inf s) = nan
significand (fin s m e) = fin s m (minus 0 (size m - 1))

unfoldable pub exponent : Float → ℤ
exponent nan = pos 0
exponent (inf s) = pos 0
exponent (fin s m e) = e +ℤ pos (size m - 1)

-- t = 1 / j + (s × s) × t, for j = 2 n - 1, 2 n - 3, .. 1.
unfoldable pub ln_series : ℕ → Float → Float → Float
ln_series zero s t = t
ln_series (suc n) s t = ln_series n s (one ⊘ whole (2 * n + 1) ⊕ (s ⊗ s) ⊗ t)

-- s = (m - 1) / (m + 1), t = 1 / 23, the series for j = 21, 19, .. 1; then (e × LN2 + (2 × s) × t) × (a / (w - 1)).
unfoldable pub ln_of : Float → Float → Float → ℤ → Float
ln_of a w m e =
    let s = (m ⊖ one) ⊘ (m ⊕ one) in
    let t = ln_series 11 s (one ⊘ whole 23) in
    (of_int binary64 e ⊗ ln2 ⊕ (two ⊗ s) ⊗ t) ⊗ (a ⊘ (w ⊖ one))

-- If m ≥ 1.5, m is halved and 1 added to e.
unfoldable pub ln_split : Float → Float → Float → ℤ → Float
ln_split a w m e = cond (le one_and_half m) (ln_of a w (m ⊗ half) (e +ℤ pos 1)) (ln_of a w m e)

-- w = 1 + a; if w = 1, a; if w is NaN, infinite or not above 0, NaN; else by the parts of w.
unfoldable pub ln1p : Float → Float
ln1p a =
    let w = one ⊕ a in
    cond (eq w one) a (cond (finite w && lt Constants.zero w) (ln_split a w (significand w) (exponent w)) nan)
