-- What an array, or an output, holds after a part of it was filled.
use Rattle.std.specs.Prelude.{◌≡◌, List, ℕ, ◌≤◌, ◌<◌, length, get_or}

-- l is l₀ but from a to e, where it is f. z is what a reading past the end gives.
pub record Filled {A : Type 0} (z : A) (f : ℕ → A) (a e : ℕ) (l₀ l : List A) : Type 0 where
  pub same : length l ≡ length l₀
  pub inside : (j : ℕ) → a ≤ j → j < e → get_or l j z ≡ f j
  pub before : (j : ℕ) → j < a → get_or l j z ≡ get_or l₀ j z
  pub after : (j : ℕ) → e ≤ j → get_or l j z ≡ get_or l₀ j z
