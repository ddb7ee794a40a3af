-- Spare lanes, cleared one after the other (`cleared_more`, the step lemma of `clear_spare`); and silent lanes, whose level is +0 in every row and
-- which rows leave silent, since +0 × 1 + 0 is +0: by induction on the rows.
use mathlib.Core.Path.{◌≡◌, refl, ap, ◌∙◌, subst}
use mathlib.Core.Logic.{◌⊎◌, inl, inr}
use mathlib.Core.List.{List}
use Prim.Native.Nat.{ℕ, zero, suc, ◌+◌, ◌*◌, ◌<◌, ◌≤◌}
use native.Mathlib.Omega.{arith}
use lib.Ieee.{Float, nan, add, mul, round}
use lib.ListN.{get_or}
use Rattle.numbers.specs.Constants as Constants
use Rattle.numbers.specs.Constants.{one}
use Rattle.curve.specs.Segments.{level_from, u_after}
use Rattle.filled.specs.Filled.{Filled}
use Rattle.filled.proofs.Filling.{split}
use Rattle.memory.specs.Memory.{lanes, columns_at}
use Rattle.memory.specs.Spaced.{puts}
use Rattle.memory.proofs.Spaced.{length-puts, puts-kept, spaced-stored, spaced-kept}
use Rattle.rows.specs.Rows.{u_after_rows, drawn_at, Whole, silence, Silent, Cleared}

-- ---- cleared lanes

-- One more: lane w is silenced.
pub cleared_more : (n w : ℕ) (f₀ f : List Float) → n ≤ w → w < lanes → Whole f₀ → Cleared n w f₀ f → Cleared n (w + 1) f₀ (puts lanes f w silence)
cleared_more n w f₀ f a b h C =
    record {
      long = length-puts lanes 0 silence f w ∙ C.long;
      spare = λ v p q. silent v p q (split v w);
      kept = λ i d.
          puts-kept nan lanes 5 silence f w i refl (λ j k e. d j w k a (omega arith) e) ∙ C.kept i (λ j v k p q e. d j v k p (omega arith) e);
    }
  where
    silent : (v : ℕ) → n ≤ v → v < w + 1 → (v < w) ⊎ (w ≤ v) → Silent (puts lanes f w silence) v
    silent v p q (inl x) = spaced-kept nan lanes 5 silence f w lanes v 5 refl (λ j i y z e. omega arith) ∙ C.spare v p x
    silent v p q (inr x) =
        let e : w ≡ v = omega arith in
        subst (λ (v : ℕ). Silent (puts lanes f w silence) v) e
        (spaced-stored nan lanes 5 silence f w refl (λ i j y e. omega arith) (λ j y. omega (arith, C.long)))

-- ---- silent lanes

stays-zero : (k : ℕ) → u_after k Constants.zero one Constants.zero ≡ Constants.zero
unfolding add mul round
stays-zero zero = refl
stays-zero (suc k) = stays-zero k

level-zero : level_from Constants.zero Constants.zero Constants.zero ≡ Constants.zero
unfolding add mul round
level-zero = refl

module _ (f : List Float) (w : ℕ) (S : Silent f w) where
  number : (j : ℕ) → get_or (columns_at f w) j nan ≡ get_or silence j nan
  number j = ap (λ (l : List Float). get_or l j nan) S

  pub silent-moved : (k : ℕ) → u_after_rows k f w ≡ Constants.zero
  silent-moved k =
      let eu = number 0 in
      let er = number 1 in
      let ed = number 2 in
      let e = stays-zero k in
      cc

  pub silent-level : (k : ℕ) → drawn_at k f w ≡ Constants.zero
  silent-level k =
      let e = silent-moved k in
      let es = number 3 in
      let eb = number 4 in
      let z = level-zero in
      cc

  -- Rows of up to four groups leave it silent.
  pub silent-drawn : (groups rows : ℕ) (f' : List Float) → groups ≤ 4 → w < 16 * groups → Filled nan (u_after_rows rows f) 0 (16 * groups) f f' → Silent f' w
  silent-drawn groups rows f' few h M =
      let u : get_or f' w nan ≡ Constants.zero = M.inside w (omega arith) h ∙ silent-moved rows in
      let r : get_or f' (w + 68) nan ≡ one = M.after (w + 68) (omega arith) ∙ number 1 in
      let d : get_or f' (w + 136) nan ≡ Constants.zero = M.after (w + 136) (omega arith) ∙ number 2 in
      let s : get_or f' (w + 204) nan ≡ Constants.zero = M.after (w + 204) (omega arith) ∙ number 3 in
      let b : get_or f' (w + 272) nan ≡ Constants.zero = M.after (w + 272) (omega arith) ∙ number 4 in
      cc
