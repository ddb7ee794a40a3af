-- What the length of a run means for each voice: it is at least 1, passes the end of no segment (`until_end_inside`), and ends none if it is shorter
-- (`before_end`). And what the search for ended segments finds (`NextEnded`): the first voice from a on that has ended, or n. By induction on the
-- voices.
use mathlib.Core.Path.{◌≡◌, refl, sym, ap, subst}
use mathlib.Core.Bool.{Bool, true, false, cond}
use mathlib.Core.Logic.{◌⊎◌, inl, inr}
use mathlib.Core.List.{List}
use Prim.Native.Nat.{ℕ, zero, suc, ◌+◌, ◌-◌, ◌≤◌, ◌<◌, max}
use native.Mathlib.Omega.{arith}
use borrow.Author.Tests.{eqb-true, eqb-false, eq-eqb, ne_eqb}
use lib.Dec.{eqb}
use Rattle.curve.specs.Segments.{untimed, Inside}
use Rattle.memory.specs.Memory.{left_at}
use Rattle.filled.proofs.Filling.{split}
use Rattle.rows.specs.Runs.{until_end, Counts, left_after, next_ended}

pub until_end_some : (n : ℕ) (c : List ℕ) → 1 ≤ until_end n c
until_end_some zero c = omega arith
until_end_some (suc n) c = omega (arith, until_end_some n c)

until_end_voice : (n : ℕ) (c : List ℕ) (v : ℕ) → v < n → until_end n c ≤ max 1 (left_at c v)
until_end_voice zero c v h = absurd (omega arith)
until_end_voice (suc n) c v h = go (λ q. until_end_voice n c v q) (split v n)
  where
    go : (v < n → until_end n c ≤ max 1 (left_at c v)) → (v < n) ⊎ (n ≤ v) → until_end (suc n) c ≤ max 1 (left_at c v)
    go ih (inl q) = omega (arith, ih q)
    go ih (inr q) =
        let e : n ≡ v = omega arith in
        subst (λ (v : ℕ). until_end (suc n) c ≤ max 1 (left_at c v)) e (omega arith)

module _ (n : ℕ) (c : List ℕ) (v m : ℕ) (h : v < n) where
  -- A run that is no longer passes the end of no segment.
  pub until_end_inside : Counts n c → m ≤ until_end n c → Inside m (left_at c v)
  until_end_inside C p = (C v h, λ d. omega (arith, until_end_voice n c v h))

  -- After a shorter one no segment has ended.
  pub before_end : 1 ≤ m → m < until_end n c → left_after (left_at c v) m ≡ 0 → ⊥
  unfolding left_after
  before_end s p = go (eqb (left_at c v) untimed) refl
    where
      go : (t : Bool) → eqb (left_at c v) untimed ≡ t → cond t untimed (left_at c v - m) ≡ 0 → ⊥
      go true e z = omega arith
      go false e z = omega (arith, until_end_voice n c v h)

  -- If none is timed, nothing is counted.
  pub no_end : Counts n c → until_end n c ≡ untimed → left_after (left_at c v) m ≡ left_at c v
  unfolding left_after
  no_end C p =
      let e : left_at c v ≡ untimed = omega (arith, until_end_voice n c v h, C v h) in
      rw (eq-eqb (left_at c v) untimed e) (sym e)

-- v is the first voice from a on whose segment has ended, or n.
pub record NextEnded (c : List ℕ) (n a v : ℕ) : Type 0 where
  pub low : a ≤ v
  pub high : v ≤ n
  pub passed : (w : ℕ) → a ≤ w → w < v → left_at c w ≡ 0 → ⊥
  pub ended : v < n → left_at c v ≡ 0

next_of : (m : ℕ) (c : List ℕ) (a : ℕ) → NextEnded c (a + m) a (next_ended m c a)
next_of zero c a =
    record { low = omega arith; high = omega arith; passed = λ w p q. absurd (omega arith); ended = λ h. absurd (omega arith) }
next_of (suc m) c a = go (next_of m c (a + 1)) (eqb (left_at c a) 0) refl
  where
    skip : NextEnded c (a + 1 + m) (a + 1) (next_ended m c (a + 1)) → (left_at c a ≡ 0 → ⊥)
        → (w : ℕ) → a ≤ w → w < next_ended m c (a + 1) → (a < w) ⊎ (w ≤ a) → left_at c w ≡ 0 → ⊥
    skip N e w p q (inl h) = N.passed w (omega arith) q
    skip N e w p q (inr h) =
        let i : a ≡ w = omega arith in
        subst (λ (w : ℕ). left_at c w ≡ 0 → ⊥) i e

    go : NextEnded c (a + 1 + m) (a + 1) (next_ended m c (a + 1)) → (x : Bool) → eqb (left_at c a) 0 ≡ x
        → NextEnded c (a + suc m) a (cond x a (next_ended m c (a + 1)))
    go N true e =
        record { low = omega arith; high = omega arith; passed = λ w p q. absurd (omega arith); ended = λ h. eqb-true (left_at c a) 0 e }
    go N false e =
        record {
          low = omega (arith, N.low);
          high = omega (arith, N.high);
          passed = λ w p q. skip N (eqb-false (left_at c a) 0 e) w p q (split a w);
          ended = λ h. N.ended (omega (arith, h));
        }

pub next-ended : (n : ℕ) (c : List ℕ) (a : ℕ) → a ≤ n → NextEnded c n a (next_ended (n - a) c a)
next-ended n c a h =
    let e : a + (n - a) ≡ n = omega arith in
    subst (λ (k : ℕ). NextEnded c k a (next_ended (n - a) c a)) e (next_of (n - a) c a)

-- A step of the search.
pub next_on : (m : ℕ) (c : List ℕ) (v : ℕ) → 0 < m → (left_at c v ≡ 0 → ⊥) → next_ended m c v ≡ next_ended (m - 1) c (v + 1)
next_on zero c v h d = absurd (omega arith)
next_on (suc m) c v h d =
    let e : m ≡ suc m - 1 = omega arith in
    rw (ne_eqb (left_at c v) 0 d) (ap (λ (k : ℕ). next_ended k c (v + 1)) e)
