-- Two texts that are put one after the other, the second into the part of the slice that the first left, are one text. By whether the first found
-- room: if it did, the second stands behind it as it would in one; if not, nothing of the slice is left.
use Rattle.std.proofs.Common.{◌≡◌, ℕ, ◌+◌, ◌-◌, ◌<◌, ◌≤◌, ◌⊎◌, List, [], ◌++◌, length, take, drop, sym, ap, ap₂, ◌∙◌, subst, arith, inl, inr}
use Rattle.std.proofs.lemmas.List.{length-append, length-take-le, length-drop, take_all, take_at, take-append-le, drop_at, drop_all, drop-drop, append_assoc, append-nil}
use Rattle.std.proofs.Math.Seq.{take-append-add}
use borrow.Rule.Slice.PartMut.{mid_of, put_mid}
use native.Mathlib.Numerals.{add-one}
use Rattle.filled.proofs.Filling.{split}
use Rattle.rows.proofs.Lent.{rest-lent, rest_back}
use Rattle.printing.specs.Text.{put, bytes_put, each}

-- What a function that puts a text says of a slice that held `old` and then holds `new`, and of its answer, n.
abbrev pub Put : List ℕ → List ℕ → List ℕ → ℕ → Type 0
Put text old new n = record { bytes : new ≡ put text old; count : n ≡ bytes_put text old }

-- A slice after a first text.
module _ (a old : List ℕ) {mid : List ℕ} {m : ℕ} (A : Put a old mid m) where
  abbrev n : ℕ
  n = length old

  in_room : length a ≤ n → (take m mid ≡ a) × (drop m mid ≡ drop (length a) old)
  unfolding put
  in_room h =
      let m-is : length a ≡ m = omega (arith, h, A.count) in
      let mid-is : mid ≡ a ++ drop (length a) old = A.bytes ∙ ap (λ (x : List ℕ). x ++ drop (length a) old) (take_all n a h) in
      (ap (take m) mid-is ∙ take_at a _ m m-is, ap (drop m) mid-is ∙ drop_at a _ m m-is)

  past_room : n < length a → (take m mid ≡ take n a) × (drop m mid ≡ [])
  unfolding put
  past_room h =
      let m-is : m ≡ n = omega (arith, h, A.count) in
      let mid-is : mid ≡ take n a =
      A.bytes ∙ ap (λ (x : List ℕ). take n a ++ x) (drop_all (length a) old (omega (arith, h))) ∙ append-nil (take n a)
      in
      let whole : length mid ≡ n = ap length mid-is ∙ length-take-le n a (omega (arith, h)) in
      (take_all m mid (omega (arith, whole, m-is)) ∙ mid-is, drop_all m mid (omega (arith, whole, m-is)))

  -- And after a second one.
  module _ (b : List ℕ) {part : List ℕ} {k : ℕ} (B : Put b (mid_of m (length mid - m) mid) part k) where
    abbrev new : List ℕ
    new = put_mid m (length mid - m) mid part

    new-is : new ≡ take m mid ++ put b (drop m mid)
    new-is = rest_back m mid part ∙ ap (λ (x : List ℕ). take m mid ++ x) (B.bytes ∙ ap (put b) (rest-lent m mid))

    k-is : k ≡ bytes_put b (drop m mid)
    k-is = B.count ∙ ap (bytes_put b) (rest-lent m mid)

    many : length (a ++ b) ≡ length a + length b
    many = length-append a b

    both-past : n < length a → Put (a ++ b) old new (m + k)
    unfolding put
    both-past h =
        let p = past_room h in
        let text = take-append-le n a b (omega (arith, h)) in
        let rest = drop_all (length (a ++ b)) old (omega (arith, h, many)) in
        record {
          bytes =
              new-is
              ∙ ap₂ (λ (x o : List ℕ). x ++ put b o) p.0 p.1
              ∙ ap (λ (x : List ℕ). take n a ++ x) (drop_all (length b) [] (omega arith))
              ∙ sym (ap₂ (λ (x y : List ℕ). x ++ y) text rest);
          count = omega (arith, h, A.count, k-is, many, ap length p.1);
        }

    both-in : length a ≤ n → Put (a ++ b) old new (m + k)
    unfolding put
    both-in h =
        let r = in_room h in
        let o = drop (length a) old in
        let room : length a + length o ≡ n = omega (arith, h, length-drop (length a) old) in
        let text = ap (λ (i : ℕ). take i (a ++ b)) (sym room) ∙ take-append-add a b (length o) in
        let rest = ap (λ (i : ℕ). drop i old) many ∙ sym (drop-drop (length b) (length a) old) in
        record {
          bytes =
              new-is
              ∙ ap₂ (λ (x o : List ℕ). x ++ put b o) r.0 r.1
              ∙ sym (append_assoc a (take (length o) b) (drop (length b) o))
              ∙ sym (ap₂ (λ (x y : List ℕ). x ++ y) text rest);
          count = omega (arith, h, A.count, k-is, many, ap length r.1, room);
        }

    pub and_then : Put (a ++ b) old new (m + k)
    and_then = go (split n (length a))
      where
        go : (n < length a) ⊎ (length a ≤ n) → Put (a ++ b) old new (m + k)
        go (inl h) = both-past h
        go (inr h) = both-in h

-- The same text by another name.
pub renamed : {a b : List ℕ} (old : List ℕ) {new : List ℕ} {n : ℕ} → Put a old new n → a ≡ b → Put b old new n
renamed old {new} {n} p e = subst (λ (x : List ℕ). Put x old new n) e p

-- One part more.
pub each-more : (n : ℕ) (part : ℕ → List ℕ) → each n part ++ part n ≡ each (n + 1) part
each-more n part = sym (ap (λ (k : ℕ). each k part) (add-one n))
