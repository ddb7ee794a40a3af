-- `compare` answers lt, eq or gt as the first number is below, equal to or above the second. By cases on its answer, of which the order rules out
-- two.
use Rattle.std.proofs.Common.{◌≡◌, ℕ, ◌<◌, ◌≤◌, not, T, refl, subst, arith, eqb→eq, leb→le}
use Prim.Native.Nat.{compare, Ordering}
use lib.Dec.{is_le, compare_is_eq, eqb_refl, nleb→lt}

pub compare_lt : (a b : ℕ) → a < b → compare a b ≡ Ordering.lt
compare_lt a b h = go (compare a b) (eqb→eq a b) (nleb→lt a b)
  where
    go : (o : Ordering) → (T (compare_is_eq o) → a ≡ b) → (T (not (is_le o)) → b < a) → o ≡ Ordering.lt
    go Ordering.lt e g = refl
    go Ordering.eq e g = let k = e tt in absurd (omega arith)
    go Ordering.gt e g = let k = g tt in absurd (omega arith)

pub compare_eq : (a b : ℕ) → a ≡ b → compare a b ≡ Ordering.eq
compare_eq a b h = subst (λ (x : ℕ). compare a x ≡ Ordering.eq) h (go (compare a a) (eqb_refl a))
  where
    go : (o : Ordering) → T (compare_is_eq o) → o ≡ Ordering.eq
    go Ordering.lt e = absurd e
    go Ordering.eq e = refl
    go Ordering.gt e = absurd e

pub compare_gt : (a b : ℕ) → b < a → compare a b ≡ Ordering.gt
compare_gt a b h = go (compare a b) (leb→le a b)
  where
    go : (o : Ordering) → (T (is_le o) → a ≤ b) → o ≡ Ordering.gt
    go Ordering.lt g = let k = g tt in absurd (omega arith)
    go Ordering.eq g = let k = g tt in absurd (omega arith)
    go Ordering.gt g = refl
