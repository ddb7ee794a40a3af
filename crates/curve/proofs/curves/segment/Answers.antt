-- `segment`: three returns for the definition's three kinds, constant, straight and bent. Each test and each field is the definition's term once the
-- callees' results are rewritten by what they ensure; no float is computed here.
use lib.Ieee.{of_bits}
use Rattle.curve.specs.Curves.{segment, straight, bent}
use Rattle.curve.proofs.curves.segment.Goals as goal

pub returns-then-span : goal.returns-then-span
unfolding segment of_bits
returns-then-span c =
    let still = simp (c.widen.ensures, c.widen-wide.ensures) at c.if-span.true in
    simp (c.constant.ensures, still)

pub returns-then-is_straight : goal.returns-then-is_straight
unfolding segment straight of_bits
returns-then-is_straight c =
    let moves = simp (c.widen.ensures, c.widen-wide.ensures) at c.if-span.false in
    let kind = simp (c.is_straight.ensures, c.narrow-r.ensures, c.exp.ensures, c.of_u64-n.ensures) at c.if-is_straight.true in
    simp (
      c.narrow-then-is_straight.ensures,
      c.narrow.ensures,
      moves,
      kind,
      c.at-end.ensures,
      c.saturating_add.ensures,
      c.at-start.ensures,
      c.of_u64-n.ensures,
      c.widen.ensures,
      c.widen-wide.ensures,
    )

pub returns : goal.returns
unfolding segment bent of_bits
returns c =
    let moves = simp (c.widen.ensures, c.widen-wide.ensures) at c.if-span.false in
    let kind = simp (c.is_straight.ensures, c.narrow-r.ensures, c.exp.ensures, c.of_u64-n.ensures) at c.if-is_straight.false in
    simp (
      c.narrow-3.ensures,
      c.narrow-2.ensures,
      c.powi-moved.ensures,
      c.widen-2.ensures,
      moves,
      kind,
      c.narrow-r.ensures,
      c.exp.ensures,
      c.at-end.ensures,
      c.saturating_add.ensures,
      c.at-start.ensures,
      c.of_u64-n.ensures,
      c.widen.ensures,
      c.widen-wide.ensures,
    )
