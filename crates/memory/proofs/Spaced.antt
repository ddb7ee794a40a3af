-- Numbers at equal distances that were stored are read back, and those that share no place with them stay. By induction on the list that is stored.
use mathlib.Core.Path.{◌≡◌, refl, sym, ap, ◌∙◌, subst}
use mathlib.Core.List.{List, [], ◌∷◌}
use mathlib.Core.Logic.{◌⊎◌, inl, inr}
use Prim.Native.Nat.{ℕ, zero, suc, ◌+◌, ◌-◌, ◌*◌, ◌≤◌, ◌<◌}
use native.Mathlib.Omega.{arith}
use native.Mathlib.Nat.{mul-zero, add-zero}
use lib.ListN.{length, get_or, set, length-set}
use lib.Seq.{ext_get_or, get_or-set_same, get_or-set_other}
use Rattle.filled.proofs.Filling.{split}
use Rattle.filled.proofs.Tables.{length-tabulate, get_d_tabulate, tabulate_ext}
use Rattle.memory.specs.Spaced.{place, spaced, puts_from, puts}

place_is : (s i j : ℕ) → place s i j ≡ i + s * j
place_is s i zero = sym (ap (λ (n : ℕ). i + n) (mul-zero s) ∙ add-zero i)
place_is s i (suc j) = refl

module _ {A : Type 0} where
  pub length-puts : (s j : ℕ) (xs l : List A) (i : ℕ) → length (puts_from j s l i xs) ≡ length l
  length-puts s j [] l i = refl
  length-puts s j (x ∷ xs) l i = length-puts s (suc j) xs (set l (place s i j) x) i ∙ length-set l (place s i j) x

  module _ (z : A) (s : ℕ) where
    far : (xs l : List A) (i j q : ℕ) → ((p : ℕ) → j ≤ p → p < j + length xs → q ≡ place s i p → ⊥)
        → get_or (puts_from j s l i xs) q z ≡ get_or l q z
    far [] l i j q f = refl
    far (x ∷ xs) l i j q f =
        far xs (set l (place s i j) x) i (suc j) q (λ p a b. f p (omega arith) (omega arith))
        ∙ get_or-set_other l (place s i j) q x z (f j (omega arith) (omega arith))

    near : (i : ℕ) → ((p q : ℕ) → p < q → place s i p ≡ place s i q → ⊥)
        → (xs l : List A) (j p : ℕ) → j ≤ p → p < j + length xs → ((q : ℕ) → q < j + length xs → place s i q < length l)
        → get_or (puts_from j s l i xs) (place s i p) z ≡ get_or xs (p - j) z
    near i d [] l j p a b f = absurd (omega arith)
    near i d (x ∷ xs) l j p a b f =
        go (λ h. near i d xs (set l (place s i j) x) (suc j) p h (omega arith) (λ q u. rw (length-set l (place s i j) x) (f q (omega arith)))) (split j p)
      where
        go : (j < p → get_or (puts_from (suc j) s (set l (place s i j) x) i xs) (place s i p) z ≡ get_or xs (p - suc j) z)
            → (j < p) ⊎ (p ≤ j) → get_or (puts_from (suc j) s (set l (place s i j) x) i xs) (place s i p) z ≡ get_or (x ∷ xs) (p - j) z
        go later (inl h) =
            let e : suc (p - suc j) ≡ p - j = omega arith in
            later h ∙ ap (λ (n : ℕ). get_or (x ∷ xs) n z) e
        go later (inr h) =
            let e : p ≡ j = omega arith in
            let n : 0 ≡ p - j = omega arith in
            far xs (set l (place s i j) x) i (suc j) (place s i p) (λ q u w. d p q (omega arith))
            ∙ ap (λ (m : ℕ). get_or (set l (place s i j) x) (place s i m) z) e
            ∙ get_or-set_same l (place s i j) x z (f j (omega arith))
            ∙ ap (λ (m : ℕ). get_or (x ∷ xs) m z) n

    -- A number at a place that none of n takes stays.
    pub puts-kept : (n : ℕ) (xs l : List A) (i q : ℕ) → length xs ≡ n → ((p : ℕ) → p < n → q ≡ i + s * p → ⊥)
        → get_or (puts s l i xs) q z ≡ get_or l q z
    puts-kept n xs l i q e f = far xs l i 0 q (λ p a b u. f p (omega arith) (u ∙ place_is s i p))

    -- n of them are read back.
    pub spaced-stored : (n : ℕ) (xs l : List A) (i : ℕ) → length xs ≡ n → ((p q : ℕ) → p < q → i + s * p ≡ i + s * q → ⊥)
        → ((q : ℕ) → q < n → i + s * q < length l) → spaced z s (puts s l i xs) i n ≡ xs
    spaced-stored n xs l i e d f =
        let g : ℕ → A = λ j. get_or (puts s l i xs) (place s i j) z in
        ext_get_or z (spaced z s (puts s l i xs) i n) xs (length-tabulate n g ∙ sym e)
        (λ j h.
        let k : j < n = subst (λ (m : ℕ). j < m) (length-tabulate n g) h in
        get_d_tabulate n g j z k
        ∙ near i (λ p q a u. d p q a (sym (place_is s i p) ∙ u ∙ place_is s i q)) xs l 0 j (omega arith) (omega arith)
        (λ q u. subst (λ (m : ℕ). m < length l) (sym (place_is s i q)) (f q (omega arith)))
        ∙ ap (λ (m : ℕ). get_or xs m z) (omega arith))

    -- Those that share no place with m that were stored.
    pub spaced-kept : (m : ℕ) (xs l : List A) (i r a n : ℕ) → length xs ≡ m → ((j p : ℕ) → j < n → p < m → a + r * j ≡ i + s * p → ⊥)
        → spaced z r (puts s l i xs) a n ≡ spaced z r l a n
    spaced-kept m xs l i r a n e f =
        tabulate_ext n (λ j. get_or (puts s l i xs) (place r a j) z) (λ j. get_or l (place r a j) z)
        (λ j h. puts-kept m xs l i (place r a j) e (λ p b u. f j p h b (sym (place_is r a j) ∙ u)))
