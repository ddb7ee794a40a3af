-- A list by its elements: its length, an element of it, and when two are equal. By induction on the length.
use mathlib.Core.Path.{◌≡◌, refl, ap}
use Prim.Native.Nat.{ℕ, zero, suc, ◌<◌}
use native.Mathlib.Omega.{arith}
use native.Mathlib.Nat.{not-suc-le-zero, le_of_suc-le-suc}
use lib.ListN.{length, get_or}
use Rattle.filled.specs.Tables.{tabulate}

module _ {A : Type 0} where
  pub length-tabulate : (n : ℕ) (f : ℕ → A) → length (tabulate n f) ≡ n
  length-tabulate zero f = refl
  length-tabulate (suc n) f = ap suc (length-tabulate n (λ i. f (suc i)))

  pub get_d_tabulate : (n : ℕ) (f : ℕ → A) (i : ℕ) (z : A) → i < n → get_or (tabulate n f) i z ≡ f i
  get_d_tabulate zero f i z h = absurd (not-suc-le-zero h)
  get_d_tabulate (suc n) f zero z h = refl
  get_d_tabulate (suc n) f (suc i) z h = get_d_tabulate n (λ j. f (suc j)) i z (le_of_suc-le-suc h)

  pub tabulate_ext : (n : ℕ) (f g : ℕ → A) → ((i : ℕ) → i < n → f i ≡ g i) → tabulate n f ≡ tabulate n g
  tabulate_ext zero f g h = refl
  tabulate_ext (suc n) f g h =
      let p : f 0 ≡ g 0 = h 0 (omega arith) in
      let q : tabulate n (λ i. f (suc i)) ≡ tabulate n (λ i. g (suc i)) = tabulate_ext n (λ i. f (suc i)) (λ i. g (suc i)) (λ i k. h (suc i) (omega arith)) in
      cc
