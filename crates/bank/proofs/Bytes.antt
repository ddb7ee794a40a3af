-- The bytes of a list of levels: how many they are, and byte p of level q (`bytes-at`), so that an output can be compared with them place by place.
-- By induction on the levels.
use mathlib.Core.Path.{◌≡◌, refl, sym, ap, ◌∙◌}
use mathlib.Core.List.{List, [], ◌∷◌, ◌++◌, append_assoc}
use Prim.Native.Nat.{ℕ, zero, suc, ◌+◌, ◌*◌, ◌<◌}
use native.Mathlib.Omega.{arith}
use lib.Ieee.{Float, nan, binary32, to_bits}
use lib.ListN.{length, get_or, get_or-append}
use lib.Seq.{get_or-append-add}
use Rattle.numbers.specs.Bytes.{lowest_first}
use Rattle.bank.specs.Banks.{bytes}

pub bytes-append : (xs ys : List Float) → bytes (xs ++ ys) ≡ bytes xs ++ bytes ys
bytes-append [] ys = refl
bytes-append (x ∷ xs) ys =
    ap (λ (l : List ℕ). lowest_first 4 (to_bits binary32 x) ++ l) (bytes-append xs ys) ∙ sym (append_assoc (lowest_first 4 (to_bits binary32 x)) (bytes xs) (bytes ys))

pub length-bytes : (xs : List Float) → length (bytes xs) ≡ 4 * length xs
length-bytes [] = refl
length-bytes (x ∷ xs) =
    let n = length-bytes xs in
    let e : suc (suc (suc (suc (length (bytes xs))))) ≡ 4 * suc (length xs) = omega (arith, n) in
    e

-- Byte p of level q.
pub bytes-at : (xs : List Float) (q p : ℕ) → q < length xs → p < 4 → get_or (bytes xs) (4 * q + p) 0 ≡ get_or (lowest_first 4 (to_bits binary32 (get_or xs q nan))) p 0
bytes-at [] q p h k = absurd (omega arith)
bytes-at (x ∷ xs) zero p h k =
    let e : 4 * 0 + p ≡ p = omega arith in
    ap (λ (j : ℕ). get_or (lowest_first 4 (to_bits binary32 x) ++ bytes xs) j 0) e
    ∙ get_or-append (lowest_first 4 (to_bits binary32 x)) (bytes xs) 0 p k
bytes-at (x ∷ xs) (suc q) p h k =
    let e : 4 * suc q + p ≡ 4 + (4 * q + p) = omega arith in
    ap (λ (j : ℕ). get_or (lowest_first 4 (to_bits binary32 x) ++ bytes xs) j 0) e
    ∙ get_or-append-add (lowest_first 4 (to_bits binary32 x)) (bytes xs) (4 * q + p) 0
    ∙ bytes-at xs q p (omega arith) k
