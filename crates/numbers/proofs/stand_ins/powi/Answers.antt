-- `powi`: at first the bits below the highest one bit are left (`highest`). An iteration, with and without the second product, is `pow_step`; when no
-- bit is left, the product is the power (`pow_done`).
use Rattle.std.proofs.Common.{◌-◌, true, false, refl, ◌∙◌, arith, eq-eqb, ne_eqb}
use Rattle.numbers.specs.StandIns as StandIns
use Rattle.numbers.proofs.Powers.{highest, pow_step, pow_done}
use Rattle.numbers.proofs.stand_ins.powi.Goals as goal

pub loop-bit-init : goal.loop-bit-init
unfolding StandIns.powi
loop-bit-init c = rw (c.saturating_sub-bits.ensures, highest c.args.len c.ranges.len.fits) refl

pub loop-bit-preserved-then-len-bit-eq1 : goal.loop-bit-preserved-then-len-bit-eq1
loop-bit-preserved-then-len-bit-eq1 c =
    let l = c.loop-bit in
    pow_step (l.bit - 1) l.bit c.args.r c.args.len l.p true (omega arith) (eq-eqb _ _ c.if-len-bit-eq1.true) ∙ l.invariant

pub loop-bit-preserved : goal.loop-bit-preserved
loop-bit-preserved c =
    let l = c.loop-bit in
    pow_step (l.bit - 1) l.bit c.args.r c.args.len l.p false (omega arith) (ne_eqb _ _ c.if-len-bit-eq1.false) ∙ l.invariant

pub returns : goal.returns
returns c = pow_done _ _ _ _ (omega arith) ∙ c.loop-bit.invariant
