-- The bits of a level in bytes: in a row that is a part of an output, and in the bytes of a list's levels.
use Rattle.std.proofs.Common.{◌≡◌, ℕ, zero, suc, ◌+◌, ◌*◌, ◌-◌, ◌/◌, ◌<◌, ◌≤◌, List, ◌++◌, codes, length, take, drop, get_or, refl, ap, ap₂, ◌∙◌, arith}
use Rattle.std.proofs.lemmas.List.{length-take-le, length-drop, get_or-take, get_or-drop, take_rest}
use native.Mathlib.Nat.{add-zero, add-suc, suc-add}
use Rattle.std.specs.Fmt.{decimal}
use lib.Ieee.{Float}
use lib.ListN.{get_or-append}
use Rattle.numbers.specs.Bytes.{number}
use Rattle.rows.proofs.RowsDrawn.{row_fits}
use Rattle.bank.specs.Banks.{bytes}
use Rattle.bank.proofs.Bytes.{length-bytes, bytes-at}
use Rattle.printing.specs.Text.{each}
use Rattle.printing.specs.Lines.{level, frame, frames, bits_in, bits_of}
use Rattle.printing.proofs.Numerals.{same-digits}

-- The same bytes are the same number.
number-same : (n : ℕ) (l m : List ℕ) (i j : ℕ) → ((p : ℕ) → p < n → get_or l (i + p) 0 ≡ get_or m (j + p) 0) → number n l i ≡ number n m j
unfolding number
number-same zero l m i j h = refl
number-same (suc n) l m i j h =
    let low : get_or l i 0 ≡ get_or m j 0 = simp add-zero at (h 0 (omega arith)) in
    let high : number n l (suc i) ≡ number n m (suc j) =
    number-same n l m (suc i) (suc j) (λ p q. simp suc-add (simp add-suc at (h (suc p) (omega arith))))
    in
    omega (arith, low, high)

-- The same parts are the same text.
each-same : (n : ℕ) (f g : ℕ → List ℕ) → ((k : ℕ) → k < n → f k ≡ g k) → each n f ≡ each n g
each-same zero f g h = refl
each-same (suc n) f g h = ap₂ (λ (x y : List ℕ). x ++ y) (each-same n f g (λ k q. h k (omega arith))) (h n (omega arith))

-- Row k of an output that holds so many frames, cut to its voices.
module _ (out : List ℕ) (k s voices frames : ℕ) (before : k < frames) (within : voices ≤ s) (room : 4 * (frames * s) ≤ length out) where
  abbrev at : ℕ
  at = 4 * (k * s)

  abbrev row : List ℕ
  row = take (4 * voices) (take (length out - at) (drop at out))

  rest : take (length out - at) (drop at out) ≡ drop at out
  rest = take_rest out at

  inside : at + 4 * voices ≤ length out
  inside = omega (arith, room, within, row_fits k frames s before)

  row_long : length row ≡ 4 * voices
  row_long =
      ap (λ (l : List ℕ). length (take (4 * voices) l)) rest
      ∙ length-take-le (4 * voices) (drop at out) (omega (arith, inside, length-drop at out))

  same_bits : (v : ℕ) → v < voices → bits_in row v ≡ bits_in out (k * s + v)
  same_bits v h =
      let e : at + 4 * v ≡ 4 * (k * s + v) = omega arith in
      number-same 4 row out (4 * v) (4 * (k * s + v))
      (λ p q.
      let i : at + (4 * v + p) ≡ 4 * (k * s + v) + p = omega arith in
      ap (λ (l : List ℕ). get_or (take (4 * voices) l) (4 * v + p) 0) rest
      ∙ get_or-take (4 * voices) (drop at out) (4 * v + p) 0 (omega arith)
      ∙ get_or-drop at out (4 * v + p) 0
      ∙ ap (λ (j : ℕ). get_or out j 0) i)

  pub row-frame : frame k (length row / 4) (bits_in row) ≡ frame k voices (λ v. bits_in out (k * s + v))
  row-frame =
      let many : length row / 4 ≡ voices = omega (arith, row_long) in
      ap (λ (n : ℕ). frame k n (bits_in row)) many
      ∙ ap (λ (x : List ℕ). decimal k ++ x ++ codes "\n") (each-same voices _ _ (λ v h. ap level (same_bits v h)))

-- ---- the levels of a list

-- Frames whose levels look the same.
pub frames-same : (voices stride n : ℕ) (f g : ℕ → ℕ) → voices ≤ stride → ((i : ℕ) → i < n * stride → level (f i) ≡ level (g i))
    → frames f voices stride n ≡ frames g voices stride n
frames-same voices stride n f g w h =
    each-same n _ _ (λ k p. ap (λ (x : List ℕ). decimal k ++ x ++ codes "\n")
    (each-same voices _ _ (λ v q. h (k * stride + v) (omega (arith, q, w, row_fits k n stride p)))))

-- The bytes of levels look as the levels do, whatever is past them.
pub bytes-shown : (xs : List Float) (rest : List ℕ) (i : ℕ) → i < length xs → level (bits_in (bytes xs ++ rest) i) ≡ level (bits_of xs i)
bytes-shown xs rest i h =
    ap (λ (x : List ℕ). codes " " ++ x)
    (same-digits 4 (bits_of xs i) (bytes xs ++ rest) (4 * i)
    (λ p q. get_or-append (bytes xs) rest 0 (4 * i + p) (omega (arith, length-bytes xs)) ∙ bytes-at xs i p h q))
