-- The invariant of `draw_block` (`GroupsDrawn`), group after group: in every row the places of the first q groups hold their levels, their lanes have
-- moved on, and what is past the rows is as it was. One more group keeps it (`groups_more`, the step lemma): the groups before it neither moved its
-- lanes nor are drawn over by it. By cases on which group a place belongs to.
use mathlib.Core.Path.{◌≡◌, sym, ◌∙◌, subst}
use mathlib.Core.Logic.{◌⊎◌, inl, inr}
use mathlib.Core.List.{List}
use Prim.Native.Nat.{ℕ, ◌+◌, ◌*◌, ◌-◌, ◌<◌, ◌≤◌}
use native.Mathlib.Omega.{arith}
use lib.Ieee.{Float, nan}
use lib.ListN.{get_or}
use Rattle.filled.specs.Filled.{Filled}
use Rattle.filled.proofs.Filling.{split, filled_on}
use Rattle.rows.specs.Rows.{u_after_rows, drawn_at, Still, Laid, GroupDrawn}
use Rattle.rows.specs.Places.{ByLevels, Shifts}
use Rattle.rows.proofs.LanesMoved.{Moved, put_back, still_filled}

-- The places of one group depend on its levels alone.
pub one_by_levels : {A : Type 0} (wide : ℕ) (cell : (ℕ → Float) → ℕ → A) → ByLevels wide cell → (f g : ℕ → Float) → ((i : ℕ) → i < 16 → f i ≡ g i)
    → (c : ℕ) → c < wide → cell f c ≡ cell g c
one_by_levels wide cell by_levels f g e c h = by_levels 1 f g (λ i p. e i (omega arith)) c (omega arith)

module _ {A : Type 0} (z : A) (wide : ℕ) (cell : (ℕ → Float) → ℕ → A) where
  -- A group, whose u after the rows was put back; and one that stays.
  module _ (stride at g rows : ℕ) (f : List Float) (o o' : List A) where
    pub group_moved : (k : ℕ) (u f' : List Float) → k ≡ rows → Laid z wide cell stride at k (λ k i. drawn_at k f (g + i)) o o' → Moved k g f u
        → Filled nan (λ j. get_or u (j - g) nan) g (g + 16) f f' → GroupDrawn z wide cell stride at g rows f o o' f'
    group_moved k u f' e L U P =
        subst (λ (n : ℕ). GroupDrawn z wide cell stride at g n f o o' f') e (record { laid = L; moved = put_back g f k u U f' P })

    pub group_still : Still g f → Laid z wide cell stride at rows (λ k i. drawn_at k f (g + i)) o o' → GroupDrawn z wide cell stride at g rows f o o' f
    group_still S L = record { laid = L; moved = still_filled g f S rows }

  -- The first q of a row's groups are drawn.
  pub record GroupsDrawn (stride q rows : ℕ) (f : List Float) (o₀ o : List A) (f' : List Float) : Type 0 where
    pub levels : (k c : ℕ) → k < rows → c < wide * q → get_or o (k * stride + c) z ≡ cell (drawn_at k f) c
    pub past : (j : ℕ) → rows * stride ≤ j → get_or o j z ≡ get_or o₀ j z
    pub moved : Filled nan (u_after_rows rows f) 0 (16 * q) f f'

  -- One more: its lanes were not moved by the groups before it.
  module _ (by_levels : ByLevels wide cell) (shifts : Shifts wide cell) (stride q rows : ℕ) (f f₁ : List Float) (o₀ o o' : List A) (f' : List Float)
      (G : GroupsDrawn stride q rows f o₀ o f₁) (W : GroupDrawn z wide cell stride (wide * q) (16 * q) rows f₁ o o' f') where
    later : (j : ℕ) → 16 * q ≤ j → get_or f₁ j nan ≡ get_or f j nan
    later j h = G.moved.after j h

    later-level : (k i : ℕ) → 16 * q ≤ i → drawn_at k f₁ i ≡ drawn_at k f i
    later-level k i h =
        let eu = later i h in
        let er = later (i + 68) (omega arith) in
        let ed = later (i + 136) (omega arith) in
        let es = later (i + 204) (omega arith) in
        let eb = later (i + 272) (omega arith) in
        cc

    later-moved : (i : ℕ) → 16 * q ≤ i → u_after_rows rows f₁ i ≡ u_after_rows rows f i
    later-moved i h =
        let eu = later i h in
        let er = later (i + 68) (omega arith) in
        let ed = later (i + 136) (omega arith) in
        cc

    pub groups_more : GroupsDrawn stride (q + 1) rows f o₀ o' f'
    groups_more =
        record {
          levels = λ k c l p. level-at k c l p (split c (wide * q));
          past = λ j p. W.laid.past j p ∙ G.past j p;
          moved =
              subst (λ (e : ℕ). Filled nan (u_after_rows rows f) 0 e f f') (omega arith)
              (filled_on nan (u_after_rows rows f) 0 (u_after_rows rows f₁) (16 * q) (16 * q + 16) f f₁ f' (omega arith) (omega arith) (λ j p h. later-moved j p)
              G.moved W.moved);
        }
      where
        level-at : (k c : ℕ) → k < rows → c < wide * (q + 1) → (c < wide * q) ⊎ (wide * q ≤ c) → get_or o' (k * stride + c) z ≡ cell (drawn_at k f) c
        level-at k c l p (inl h) = W.laid.kept k c h ∙ G.levels k c l h
        level-at k c l p (inr h) =
            let wider : wide * (q + 1) ≡ wide * q + wide = omega arith in
            let e : wide * q + (c - wide * q) ≡ c = omega arith in
            let m : c - wide * q < wide = omega (arith, wider) in
            subst (λ (c : ℕ). get_or o' (k * stride + c) z ≡ cell (drawn_at k f) c) e
            (W.laid.levels k (c - wide * q) l m
            ∙ one_by_levels wide cell by_levels (λ i. drawn_at k f₁ (16 * q + i)) (λ i. drawn_at k f (16 * q + i)) (λ i n. later-level k (16 * q + i) (omega arith)) (c - wide * q) m
            ∙ sym (shifts (drawn_at k f) q (c - wide * q)))
