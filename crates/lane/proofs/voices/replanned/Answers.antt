-- `replanned`: each return is a case of `replan`, under the tests that the definition makes in the same order: nothing is changed, an untimed stage
-- has its new level, a stage whose new time has passed is followed by the next, or the rest has a new curve. The derived `==` is the definition's
-- comparison (`equal`).
use mathlib.Core.Bool.{◌&&◌}
use mathlib.Core.Path.{◌≡◌, sym, ◌∙◌}
use lib.Dec.{eqb}
use Rattle.std.proofs.Math.Bool.{and_assoc}
use borrow.Author.Tests.{le-leb, lt-leb}
use lib.Ieee.{eq}
use Rattle.lane.specs.declared.lanes.Spec.{Spec}
use Rattle.lane.specs.Planning.{same}
use Rattle.lane.specs.Voices.{replan, elapsed}
use Rattle.lane.proofs.voices.replanned.Goals as goal

-- The derived `==` is the definition's.
equal : (a b : Spec) → eqb a.total b.total && (eq a.to b.to && eq a.k b.k) ≡ same a b
unfolding same
equal a b = sym (and_assoc (eqb a.total b.total) (eq a.to b.to) (eq a.k b.k))

pub returns-then-eq : goal.returns-then-eq
unfolding replan
returns-then-eq c = simp (simp ((c.eq.ensures ∙ equal c.spec_of-spec.result c.args.lane.spec), c.spec_of-spec.ensures) at c.if-eq.true)

pub returns-then-is_untimed : goal.returns-then-is_untimed
unfolding replan
returns-then-is_untimed c =
    simp (
      c.begin_untimed.ensures,
      c.spec_of-spec.ensures,
      simp ((c.eq.ensures ∙ equal c.spec_of-spec.result c.args.lane.spec), c.spec_of-spec.ensures) at c.if-eq.false,
      simp c.is_untimed.ensures at c.if-is_untimed.true,
    )

pub returns-then-elapsed-spec : goal.returns-then-elapsed-spec
unfolding replan elapsed
returns-then-elapsed-spec c =
    simp (
      c.enter.ensures,
      c.next.ensures,
      c.spec_of-spec.ensures,
      simp ((c.eq.ensures ∙ equal c.spec_of-spec.result c.args.lane.spec), c.spec_of-spec.ensures) at c.if-eq.false,
      simp c.is_untimed.ensures at c.if-is_untimed.false,
      le-leb _ _ (simp (c.elapsed-elapsed.ensures, c.spec_of-spec.ensures) at c.if-elapsed-spec.true),
    )

pub returns : goal.returns
unfolding replan elapsed
returns c =
    simp (
      c.begin.ensures,
      c.level.ensures,
      c.spec_of-spec.ensures,
      c.elapsed-elapsed.ensures,
      simp (
        (c.eq.ensures ∙ equal c.spec_of-spec.result c.args.lane.spec),
        c.spec_of-spec.ensures,
      ) at c.if-eq.false,
      simp c.is_untimed.ensures at c.if-is_untimed.false,
      lt-leb _ _ (simp (
        c.elapsed-elapsed.ensures,
        c.spec_of-spec.ensures,
      ) at c.if-elapsed-spec.false),
    )
