-- `time_at` of a zero is a zero, for every bend: a curve that has made no progress is at its beginning. A bend is at most 64 in size, so that E(-k)
-- is a number; then the zero stays one through the product, L, the quotient, whose divisor is no zero, and the clamp. By cases on whether the bend is
-- 0.
use mathlib.Core.Path.{◌≡◌, refl}
use mathlib.Core.Bool.{Bool, true, false, cond}
use lib.Dec.{lit≤}
use lib.Ieee.{Float, binary64, neg, eq}
use Rattle.numbers.specs.Constants as Constants
use Rattle.numbers.specs.Constants.{one, two}
use Rattle.numbers.specs.Rounded.{◌⊖◌, ◌⊗◌, ◌⊘◌}
use Rattle.numbers.specs.Limits.{unit, clamp}
use Rattle.numbers.specs.StandIns.{exp_m1, ln1p}
use Rattle.numbers.proofs.Laws.Zero.{Zero, divisor_of_test, neg_zero, zero-times, zero-over, clamp-zero}
use Rattle.numbers.proofs.Laws.Sizes.{Within, within_finite, neg_within, sub_within, mul-within}
use Rattle.numbers.proofs.UnitInterval.{unit_range}
use Rattle.numbers.proofs.ExponentialSize.{exp_finite}
use Rattle.numbers.proofs.Logarithm.{ln_zero}
use Rattle.curve.specs.Curves.{max_bend, bend, time_at}

bend-within : (c : Float) → Within 6 (bend c)
unfolding bend
bend-within c =
    mul-within binary64 max_bend (two ⊗ unit c ⊖ one) 4 2 (lit≤ tt) (lit≤ tt)
    (sub_within binary64 (two ⊗ unit c) one 1 (lit≤ tt) (mul-within binary64 two (unit c) 1 0 (lit≤ tt) (lit≤ tt) (unit_range c).1) (lit≤ tt))

pub time_at_zero : (c v : Float) → Zero v → Zero (time_at (bend c) v)
unfolding time_at
time_at_zero c v z = go (eq (bend c) Constants.zero) refl
  where
    start : Zero (clamp v Constants.zero one)
    start = clamp-zero v z

    go : (t : Bool) → eq (bend c) Constants.zero ≡ t
        → Zero
        (cond t (clamp v Constants.zero one)
        (clamp (neg (ln1p (clamp v Constants.zero one ⊗ exp_m1 (neg (bend c)))) ⊘ bend c) Constants.zero one))
    go true h = start
    go false h =
        let k = bend c in
        let K = bend-within c in
        let E = exp_m1 (neg k) in
        let a = clamp v Constants.zero one ⊗ E in
        clamp-zero (neg (ln1p a) ⊘ k)
        (zero-over binary64 (neg (ln1p a)) k
        (neg_zero (ln1p a) (ln_zero a (zero-times binary64 (clamp v Constants.zero one) E start (exp_finite (neg k) (neg_within k 6 K)))))
        (divisor_of_test k (within_finite 6 k K) h))
