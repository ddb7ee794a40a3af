-- `frame`: an untimed segment steps, a timed one steps with one left less, and advances on its last sample. The code's test `left <= 1` is the
-- definition's left - 1 = 0, where subtraction stops at 0.
use Prim.Native.Nat.{◌-◌}
use native.Mathlib.Omega.{arith}
use borrow.Author.Tests.{eq-eqb, ne_eqb}
use Rattle.lane.specs.Voices.{frame}
use Rattle.lane.proofs.lanes.Voice.frame.Goals as goal

pub returns-then-left : goal.returns-then-left
unfolding frame
returns-then-left c = let s = c.args.self.seg.left in simp (c.stepped.ensures, eq-eqb s 4294967295 c.if-left.true)

pub returns-then-left-le1 : goal.returns-then-left-le1
unfolding frame
returns-then-left-le1 c =
    let s = c.args.self.seg.left in simp (c.advance.ensures, ne_eqb s 4294967295 c.if-left.false, eq-eqb (s - 1) 0 (omega arith))

pub returns : goal.returns
unfolding frame
returns c =
    let s = c.args.self.seg.left in simp (c.stepped-2.ensures, ne_eqb s 4294967295 c.if-left.false, ne_eqb (s - 1) 0 (λ e. omega arith))
