-- A list that is filled from a to e and is otherwise as it was (`Filled`): nothing filled yet, one element more (`filled_more`, the step lemma of
-- loops that fill a list), and a part more (`filled_on`). By cases on whether a place is before the new part or in it.
use mathlib.Core.Path.{◌≡◌, refl, ◌∙◌, subst}
use mathlib.Core.Logic.{◌⊎◌, inl, inr}
use mathlib.Core.Bool.{Bool, true, false}
use mathlib.Core.List.{List}
use Prim.Native.Nat.{ℕ, ◌+◌, ◌≤◌, ◌<◌}
use native.Mathlib.Omega.{arith}
use borrow.Author.Tests.{ltb-true, ltb-false}
use lib.Dec.{ltb}
use lib.ListN.{length, get_or, set, length-set}
use lib.Seq.{get_or-set_same, get_or-set_other}
use Rattle.filled.specs.Filled.{Filled}

pub split : (i n : ℕ) → (i < n) ⊎ (n ≤ i)
split i n = go (ltb i n) refl
  where
    go : (t : Bool) → ltb i n ≡ t → (i < n) ⊎ (n ≤ i)
    go true e = inl (ltb-true i n e)
    go false e = inr (ltb-false i n e)

module _ {A : Type 0} (z : A) (f : ℕ → A) (a : ℕ) where
  pub filled_none : (l : List A) → Filled z f a a l l
  filled_none l = record { same = refl; inside = λ j p q. absurd (omega arith); before = λ j p. refl; after = λ j p. refl }

  pub filled_more : (e : ℕ) (l₀ l : List A) (v : A) → a ≤ e → e < length l₀ → v ≡ f e → Filled z f a e l₀ l → Filled z f a (e + 1) l₀ (set l e v)
  filled_more e l₀ l v p h w F =
      record {
        same = length-set l e v ∙ F.same;
        inside = λ j q r. go j q r (split j e);
        before = λ j q. get_or-set_other l e j v z (λ x. omega arith) ∙ F.before j q;
        after = λ j q. get_or-set_other l e j v z (λ x. omega arith) ∙ F.after j (omega arith);
      }
    where
      go : (j : ℕ) → a ≤ j → j < e + 1 → (j < e) ⊎ (e ≤ j) → get_or (set l e v) j z ≡ f j
      go j q r (inl s) = get_or-set_other l e j v z (λ x. omega arith) ∙ F.inside j q s
      go j q r (inr s) =
          let x : e ≡ j = omega arith in
          subst (λ (i : ℕ). get_or (set l e v) i z ≡ f i) x (get_or-set_same l e v z (rw F.same h) ∙ w)

  -- A part from e to d was filled with g, which is f there.
  pub filled_on : (g : ℕ → A) (e d : ℕ) (l₀ l l' : List A) → a ≤ e → e ≤ d → ((j : ℕ) → e ≤ j → j < d → g j ≡ f j)
      → Filled z f a e l₀ l → Filled z g e d l l' → Filled z f a d l₀ l'
  filled_on g e d l₀ l l' p h w F G =
      record {
        same = G.same ∙ F.same;
        inside = λ j q r. go j q r (split j e);
        before = λ j q. G.before j (omega arith) ∙ F.before j q;
        after = λ j q. G.after j q ∙ F.after j (omega arith);
      }
    where
      go : (j : ℕ) → a ≤ j → j < d → (j < e) ⊎ (e ≤ j) → get_or l' j z ≡ f j
      go j q r (inl s) = G.before j s ∙ F.inside j q s
      go j q r (inr s) = G.inside j s r ∙ w j s r
