-- `stages_last`: the length of a timed stage is the next term of the definition's sum (`last-timed`), and from an untimed stage on nothing is added
-- (`last-untimed`). A sum that saturates at each step is the sum saturated once (`more`).
use mathlib.Core.Path.{◌≡◌, sym, ◌∙◌}
use Prim.Native.Nat.{ℕ, suc, ◌+◌, ◌≤◌}
use native.Mathlib.Nat.{le_refl, zero-add}
use native.Mathlib.Omega.{arith}
use Rattle.numbers.specs.Counts.{saturated}
use Rattle.lane.specs.Readings.{lasts}
use Rattle.settings.specs.Stages.{next, timed_stages}
use Rattle.lane.proofs.Finding.{timed-next, last-untimed, last-timed}
use Rattle.lane.proofs.voices.stages_last.Goals as goal

fits : (a : ℕ) → saturated a ≤ 18446744073709551615
fits a = omega arith

more : (a b c : ℕ) → saturated (saturated (a + b) + c) ≡ saturated (a + (b + c))
more a b c = omega arith

within : (a b : ℕ) → b ≡ 0 → a ≤ 18446744073709551615 → a ≡ saturated (a + b)
within a b h k = omega arith

pub loop-p-init : goal.loop-p-init
loop-p-init c = (omega arith, rw zero-add)

pub loop-p-smaller : goal.loop-p-smaller
loop-p-smaller c =
    rw (c.next-stage.ensures, timed-next c.loop-p.stage (sym c.is_untimed.ensures ∙ c.loop-p-test.true)) (le_refl (suc (timed_stages (next c.loop-p.stage))))

pub loop-p-preserved : goal.loop-p-preserved
unfolding lasts
loop-p-preserved c =
    let a = c.args in
    let l = c.loop-p in
    let h = sym c.is_untimed.ensures ∙ c.loop-p-test.true in
    let e = last-timed a.p a.timing l.stage l.level h in
    rw (c.next-stage.ensures, c.saturating_add-sum.ensures, c.saturating_sub.ensures, c.join-joined.ensures, c.spec_of-spec.ensures)
    (fits _, more l.sum _ _ ∙ rw (sym e) l.invariant.1)

pub returns : goal.returns
returns c =
    let a = c.args in
    let l = c.loop-p in
    let e = last-untimed a.p a.timing l.stage l.level (sym c.is_untimed.ensures ∙ c.loop-p-test.false) in
    within l.sum _ e l.invariant.0 ∙ l.invariant.1
