-- `find`: an iteration skips a stage (`find_skips`); the search ends at an untimed stage (`find-untimed`) or at one with samples left (`find-timed`).
-- After a timed stage fewer timed ones are left (`timed-next`).
use mathlib.Core.Path.{refl, sym, ◌∙◌}
use native.Mathlib.Omega.{arith}
use Rattle.lane.proofs.Finding.{timed-next, find-untimed, find-timed, find_skips}
use Rattle.lane.proofs.lanes.find.Goals as goal

pub loop-p-init : goal.loop-p-init
loop-p-init c = refl

pub loop-p-smaller : goal.loop-p-smaller
loop-p-smaller c =
    rw (c.next-stage.ensures, timed-next c.loop-p.stage (sym c.is_untimed.ensures ∙ c.if-is_untimed.false)) (omega arith)

pub loop-p-preserved : goal.loop-p-preserved
loop-p-preserved c =
    let a = c.args in
    let l = c.loop-p in
    let h = sym c.is_untimed.ensures ∙ c.if-is_untimed.false in
    let k = simp (c.join-joined.ensures, c.spec_of-spec.ensures) at c.if-joined-spec.false in
    rw (c.next-stage.ensures, c.spec_of-spec.ensures) (sym (find_skips a.p a.timing l.stage l.level h k) ∙ l.invariant)

pub returns-then-is_untimed : goal.returns-then-is_untimed
returns-then-is_untimed c =
    let a = c.args in
    let l = c.loop-p in
    rw c.spec_of-spec.ensures (sym (find-untimed a.p a.timing l.stage l.level (sym c.is_untimed.ensures ∙ c.if-is_untimed.true)) ∙ l.invariant)

pub returns-then-joined-spec : goal.returns-then-joined-spec
returns-then-joined-spec c =
    let a = c.args in
    let l = c.loop-p in
    let h = sym c.is_untimed.ensures ∙ c.if-is_untimed.false in
    let k = simp (c.join-joined.ensures, c.spec_of-spec.ensures) at c.if-joined-spec.true in
    rw (c.join-joined.ensures, c.spec_of-spec.ensures) (sym (find-timed a.p a.timing l.stage l.level h k) ∙ l.invariant)
