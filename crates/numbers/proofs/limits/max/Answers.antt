-- `max`: a NaN on the left gives y; one on the right is below nothing, so that the comparison alone gives x (`second`).
use Rattle.std.proofs.Common.{◌≡◌, Bool, true, false, cond, sym, refl, ap, ◌∙◌}
use lib.Ieee.{Float, nan, inf, fin, lt, is_nan}
use Rattle.numbers.specs.Limits.{max}
use Rattle.numbers.proofs.limits.max.Goals as goal
use Rattle.numbers.proofs.limits.max.Goals.{then-is_nan, else-is_nan}

first : (x y : Float) → is_nan x ≡ true → y ≡ max x y
unfolding max
first x y h = simp h

-- A NaN on the right is below nothing, so the comparison already answers x.
second : (x y : Float) → is_nan x ≡ false → max x y ≡ cond (lt x y) y x
unfolding max is_nan lt
second x (inf s) h = simp h
second x (fin s m e) h = simp h
second nan nan h = refl
second (inf s) nan h = refl
second (fin s m e) nan h = refl

rest : (x y : Float) (t : Bool) → is_nan x ≡ false → lt x y ≡ t → cond t y x ≡ max x y
rest x y t h l = sym (second x y h ∙ ap (λ (b : Bool). cond b y x) l)

pub returns-then-x-y : goal.returns-then-x-y
returns-then-x-y c =
    elim c.if-is_nan.branch [
      | then-is_nan w ↦ first _ _ (sym c.is_nan.ensures.value ∙ w.if-is_nan.true)
      | else-is_nan w ↦ rest _ _ true (sym c.is_nan.ensures.value ∙ w.if-is_nan.false) (sym w.value-is ∙ c.if-x-y.true)
    ]

pub returns-else-x-y : goal.returns-else-x-y
returns-else-x-y c =
    elim c.if-is_nan.branch [
      | then-is_nan w ↦ cc
      | else-is_nan w ↦ rest _ _ false (sym c.is_nan.ensures.value ∙ w.if-is_nan.false) (sym w.value-is ∙ c.if-x-y.false)
    ]
