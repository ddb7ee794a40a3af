-- A list of which the part from `at` on was lent, and came back as p': it is as it was before `at`, and p' from there on.
use mathlib.Core.Path.{◌≡◌, ap, ◌∙◌, subst}
use mathlib.Core.List.{List, ◌++◌, append-nil}
use Prim.Native.Nat.{ℕ, ◌+◌, ◌-◌, ◌≤◌, ◌<◌}
use native.Mathlib.Omega.{arith}
use borrow.Rule.Slice.PartMut.{mid_of, put_mid}
use lib.ListN.{length, get_or, take, drop, length-drop, drop_of_length-le, get_or-append}
use lib.Seq.{take_all, get_or-append-add, get_or-take, length-take-le}

module _ {A : Type 0} (z : A) (at : ℕ) (o p' : List A) (h : at ≤ length o) where
  head-long : length (take at o) ≡ at
  head-long = length-take-le at o h

  pub part_before : (j : ℕ) → j < at → get_or (take at o ++ p') j z ≡ get_or o j z
  part_before j q = get_or-append (take at o) p' z j (omega (arith, head-long)) ∙ get_or-take at o j z q

  pub part_at : (i : ℕ) → get_or (take at o ++ p') (at + i) z ≡ get_or p' i z
  part_at i = subst (λ (k : ℕ). get_or (take at o ++ p') (k + i) z ≡ get_or p' i z) head-long (get_or-append-add (take at o) p' i z)

module _ {A : Type 0} (at : ℕ) (o : List A) where
  pub rest-lent : mid_of at (length o - at) o ≡ drop at o
  rest-lent = take_all (length o - at) (drop at o) (omega (arith, length-drop at o))

  pub rest_back : (p' : List A) → put_mid at (length o - at) o p' ≡ take at o ++ p'
  rest_back p' =
      ap (λ (l : List A). take at o ++ (p' ++ l)) (drop_of_length-le (drop at o) {i = length o - at} (omega (arith, length-drop at o)))
      ∙ ap (λ (l : List A). take at o ++ l) (append-nil p')
