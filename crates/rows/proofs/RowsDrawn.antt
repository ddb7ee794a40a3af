-- One row more of a group's places (`laid_more`, the step lemma of the loops over rows): its places hold its levels, while earlier rows, the places
-- before the group's and what is past the rows stay. By cases on the row of a place; a row ends before the next one begins (`row_fits`).
use mathlib.Core.Path.{◌≡◌, ap, ◌∙◌, subst}
use mathlib.Core.Logic.{◌⊎◌, inl, inr}
use mathlib.Core.List.{List}
use Prim.Native.Nat.{ℕ, ◌+◌, ◌*◌, ◌-◌, ◌<◌, ◌≤◌}
use native.Mathlib.Nat.{suc-mul, add-mul, mul-le-mul_right}
use native.Mathlib.Omega.{arith}
use lib.Ieee.{Float}
use lib.ListN.{get_or}
use Rattle.filled.specs.Filled.{Filled}
use Rattle.filled.proofs.Filling.{split}
use Rattle.rows.specs.Rows.{Laid}

pub row_fits : (k rows stride : ℕ) → k < rows → k * stride + stride ≤ rows * stride
row_fits k rows stride p = subst (λ (m : ℕ). m ≤ rows * stride) (suc-mul k stride) (mul-le-mul_right stride p)

pub run_fits : (done run rows stride : ℕ) → done + run ≤ rows → done * stride + run * stride ≤ rows * stride
run_fits done run rows stride p = subst (λ (m : ℕ). m ≤ rows * stride) (add-mul done run stride) (mul-le-mul_right stride p)

module _ {A : Type 0} (z : A) (wide : ℕ) (cell : (ℕ → Float) → ℕ → A) (stride at : ℕ) (y : ℕ → ℕ → Float) where
  -- One row more: the places from `to` on were written over with the levels of row k.
  module _ (k : ℕ) (o₀ o o' row : List A) (to : ℕ) (fit : at + wide ≤ stride) (to_is : to ≡ at + k * stride)
      (D : Laid z wide cell stride at k y o₀ o) (X : (c : ℕ) → c < wide → get_or row c z ≡ cell (y k) c)
      (F : Filled z (λ j. get_or row (j - to) z) to (to + wide) o o') where
    pub laid_more : Laid z wide cell stride at (k + 1) y o₀ o'
    laid_more =
        record {
          levels = λ j c h q. drawn j c q (split j k) h;
          kept = λ j c q. same j c q (split j k) ∙ D.kept j c q;
          past = λ j q.
              let more : k * stride + stride ≤ (k + 1) * stride = row_fits k (k + 1) stride (omega arith) in
              F.after j (omega (arith, more)) ∙ D.past j (omega (arith, more));
        }
      where
        drawn : (j c : ℕ) → c < wide → (j < k) ⊎ (k ≤ j) → j < k + 1 → get_or o' (j * stride + (at + c)) z ≡ cell (y j) c
        drawn j c q (inl h) e = F.before (j * stride + (at + c)) (omega (arith, row_fits j k stride h)) ∙ D.levels j c h q
        drawn j c q (inr h) e =
            let w : k ≡ j = omega arith in
            let p : to + c ≡ k * stride + (at + c) = omega arith in
            let i : to + c - to ≡ c = omega arith in
            subst (λ (j : ℕ). get_or o' (j * stride + (at + c)) z ≡ cell (y j) c) w
            (subst (λ (n : ℕ). get_or o' n z ≡ cell (y k) c) p
            (F.inside (to + c) (omega arith) (omega arith) ∙ ap (λ (n : ℕ). get_or row n z) i ∙ X c q))

        same : (j c : ℕ) → c < at → (j < k) ⊎ (k ≤ j) → get_or o' (j * stride + c) z ≡ get_or o (j * stride + c) z
        same j c q (inl h) = F.before (j * stride + c) (omega (arith, row_fits j k stride h))
        same j c q (inr h) = go (split k j)
          where
            go : (k < j) ⊎ (j ≤ k) → get_or o' (j * stride + c) z ≡ get_or o (j * stride + c) z
            go (inl e) = F.after (j * stride + c) (omega (arith, row_fits k j stride e))
            go (inr e) =
                let w : k ≡ j = omega arith in
                subst (λ (j : ℕ). get_or o' (j * stride + c) z ≡ get_or o (j * stride + c) z) w (F.before (k * stride + c) (omega arith))
