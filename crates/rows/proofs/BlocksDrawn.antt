-- n rows drawn behind m rows are m + n rows (`drawn_on`, the step lemma of `draw`). u after m steps and n more is u after m + n (`u_more`, by
-- induction), so a lane that was moved on by m rows has the levels of the rows from m on; the output was lent from its row m on, so that the rows
-- before are as they were.
use mathlib.Core.Path.{◌≡◌, sym, ap, ◌∙◌, subst}
use mathlib.Core.Logic.{◌⊎◌, inl, inr}
use mathlib.Core.List.{List, ◌++◌}
use Prim.Native.Nat.{ℕ, zero, suc, ◌+◌, ◌*◌, ◌/◌, ◌-◌, ◌<◌, ◌≤◌}
use native.Mathlib.Nat.{add-mul, le-div_iff_mul-le}
use native.Mathlib.Omega.{arith}
use borrow.Rule.Slice.PartMut.{mid_of, put_mid}
use lib.Ieee.{Float, nan}
use lib.ListN.{length, get_or, take, drop, length-append, length-drop}
use lib.Seq.{get_or-drop, length-take-le}
use Rattle.curve.specs.Segments.{u_after}
use Rattle.curve.proofs.Steps.{u_next}
use Rattle.filled.specs.Filled.{Filled}
use Rattle.filled.proofs.Filling.{split}
use Rattle.memory.specs.Memory.{u_at, r_at, d_at}
use Rattle.rows.specs.Rows.{u_after_rows, drawn_at, Drawn}
use Rattle.rows.specs.Places.{ByLevels}
use Rattle.rows.proofs.Lent.{part_before, part_at, rest-lent, rest_back}
use Rattle.rows.proofs.RowsDrawn.{row_fits}

-- A block of up to four groups has a row.
pub block-rows : (groups : ℕ) → 1 ≤ groups → groups ≤ 4 → 1 ≤ 64 / groups
block-rows groups p q = (le-div_iff_mul-le p).1 (omega arith)

-- u after m rows, and n more.
u_more : (m n : ℕ) (u r d : Float) → u_after n (u_after m u r d) r d ≡ u_after (m + n) u r d
u_more m zero u r d =
    let e : m ≡ m + 0 = omega arith in
    ap (λ (k : ℕ). u_after k u r d) e
u_more m (suc n) u r d =
    let e : m + 1 + n ≡ m + suc n = omega arith in
    ap (λ (x : Float). u_after n x r d) (u_next m u r d) ∙ u_more (m + 1) n u r d ∙ ap (λ (k : ℕ). u_after k u r d) e

-- The lanes of up to four groups, moved on by m rows.
module _ (groups m : ℕ) (few : groups ≤ 4) (f f₁ : List Float) (M : Filled nan (u_after_rows m f) 0 (16 * groups) f f₁) where
  moved_more : (n i : ℕ) → i < 16 * groups → u_after_rows n f₁ i ≡ u_after_rows (m + n) f i
  moved_more n i h =
      let eu = M.inside i (omega arith) h in
      let er = M.after (i + 68) (omega arith) in
      let ed = M.after (i + 136) (omega arith) in
      let e = u_more m n (u_at f i) (r_at f i) (d_at f i) in
      cc

  drawn-more : (n i : ℕ) → i < 16 * groups → drawn_at n f₁ i ≡ drawn_at (m + n) f i
  drawn-more n i h =
      let e = moved_more n i h in
      let es = M.after (i + 204) (omega arith) in
      let eb = M.after (i + 272) (omega arith) in
      cc

module _ {A : Type 0} (z : A) (wide : ℕ) (cell : (ℕ → Float) → ℕ → A) where
  -- n rows behind m: from `at` on the output was lent, and came back with them.
  module _ (by_levels : ByLevels wide cell) (groups m n at : ℕ) (few : groups ≤ 4) (f f₁ f₂ : List Float) (o₀ o p' : List A)
      (at-is : at ≡ m * (wide * groups)) (fits : at ≤ length o)
      (D : Drawn z wide cell groups m f o₀ o f₁) (E : Drawn z wide cell groups n f₁ (drop at o) p' f₂) where
    rows_on : Drawn z wide cell groups (m + n) f o₀ (take at o ++ p') f₂
    rows_on =
        record {
          levels = λ k c h q. level-at k c h q (split k m);
          past = λ j h. past-at j (omega (arith, add-mul m n (wide * groups)));
          long = length-append (take at o) p' ∙ omega (arith, length-take-le at o fits, E.long, length-drop at o, D.long);
          moved =
              record {
                same = E.moved.same ∙ D.moved.same;
                inside = λ j p q. E.moved.inside j p q ∙ moved_more groups m few f f₁ D.moved n j q;
                before = λ j p. absurd (omega arith);
                after = λ j p. E.moved.after j p ∙ D.moved.after j p;
              };
        }
      where
        level-at : (k c : ℕ) → k < m + n → c < wide * groups → (k < m) ⊎ (m ≤ k)
            → get_or (take at o ++ p') (k * (wide * groups) + c) z ≡ cell (drawn_at k f) c
        level-at k c h q (inl p) =
            part_before z at o p' fits (k * (wide * groups) + c) (omega (arith, row_fits k m (wide * groups) p)) ∙ D.levels k c p q
        level-at k c h q (inr p) =
            let e : m + (k - m) ≡ k = omega arith in
            let w : at + ((k - m) * (wide * groups) + c) ≡ (m + (k - m)) * (wide * groups) + c = omega (arith, add-mul m (k - m) (wide * groups)) in
            subst (λ (k : ℕ). get_or (take at o ++ p') (k * (wide * groups) + c) z ≡ cell (drawn_at k f) c) e
            (subst (λ (j : ℕ). get_or (take at o ++ p') j z ≡ cell (drawn_at (m + (k - m)) f) c) w
            (part_at z at o p' fits ((k - m) * (wide * groups) + c)
            ∙ E.levels (k - m) c (omega arith) q
            ∙ by_levels groups (drawn_at (k - m) f₁) (drawn_at (m + (k - m)) f) (drawn-more groups m few f f₁ D.moved (k - m)) c q))

        past-at : (j : ℕ) → at + n * (wide * groups) ≤ j → get_or (take at o ++ p') j z ≡ get_or o₀ j z
        past-at j h =
            let e : at + (j - at) ≡ j = omega arith in
            subst (λ (j : ℕ). get_or (take at o ++ p') j z ≡ get_or o j z) e
            (part_at z at o p' fits (j - at) ∙ E.past (j - at) (omega arith) ∙ get_or-drop at o (j - at) z)
            ∙ D.past j (omega arith)

  -- The same of the part as it is lent, and of the whole when it is back.
  pub drawn_on : ByLevels wide cell → (groups m n at : ℕ) → groups ≤ 4 → (f f₁ f₂ : List Float) (o₀ o p' : List A) → at ≡ m * (wide * groups)
      → at ≤ length o → Drawn z wide cell groups m f o₀ o f₁ → Drawn z wide cell groups n f₁ (mid_of at (length o - at) o) p' f₂
      → Drawn z wide cell groups (m + n) f o₀ (put_mid at (length o - at) o p') f₂
  drawn_on by_levels groups m n at few f f₁ f₂ o₀ o p' at-is fits D E =
      subst (λ (l : List A). Drawn z wide cell groups (m + n) f o₀ l f₂) (sym (rest_back at o p'))
      (rows_on by_levels groups m n at few f f₁ f₂ o₀ o p' at-is fits D
      (subst (λ (l : List A). Drawn z wide cell groups n f₁ l p' f₂) (rest-lent at o) E))
