-- `nearest`: twice the remainder is compared with the divisor, as `closest` does; a tie adds the quotient's last bit, so that it goes to the even
-- number.
use Rattle.std.proofs.Common.{◌*◌, ◌/◌, ◌%◌, ◌<◌, sym, ap, ◌∙◌, mod-lt, div-le_self, add-one, arith}
use lib.Ieee.{nearest}
use Rattle.numbers.proofs.Laws.Order.{compare_lt, compare_eq, compare_gt}
use Rattle.numbers.proofs.conversions.nearest.Goals as goal

pub overflow_mul-r : goal.overflow_mul-r
overflow_mul-r c = omega (arith, mod-lt c.args.d c.requires.0)

pub overflow_add-result : goal.overflow_add-result
overflow_add-result c = let s = c.args in omega (arith, div-le_self s.d s.u)

pub overflow_add-result-else-r-u-2 : goal.overflow_add-result-else-r-u-2
overflow_add-result-else-r-u-2 c = let s = c.args in omega (arith, div-le_self s.d s.u)

pub returns-then-r-u : goal.returns-then-r-u
returns-then-r-u c = let s = c.args in sym (ap (nearest (s.d / s.u)) (compare_lt (s.d % s.u * 2) s.u c.if-r-u.true))

pub returns-then-r-u-2 : goal.returns-then-r-u-2
returns-then-r-u-2 c = let s = c.args in sym (ap (nearest (s.d / s.u)) (compare_eq (s.d % s.u * 2) s.u c.if-r-u-2.true))

pub returns-else-r-u-2 : goal.returns-else-r-u-2
returns-else-r-u-2 c =
    let s = c.args in
    let l : s.u < s.d % s.u * 2 = omega arith in
    add-one (s.d / s.u) ∙ sym (ap (nearest (s.d / s.u)) (compare_gt (s.d % s.u * 2) s.u l))
