-- `row_of`, for bytes: an iteration puts the four bytes of level i behind those of the levels before it (`bytes_more`); std's order of the bytes is
-- the definition's, the lowest first (`le_bytes`).
use Rattle.std.proofs.Common.{◌≡◌, ap, ◌∙◌, inl, inr, ◌⊎◌, ℕ, ◌+◌, ◌-◌, ◌*◌, ◌/◌, ◌%◌, ◌<◌, ◌≤◌, List, get_or, w32, arith, Float}
use Rattle.std.specs.Float.{nan, binary32}
use Rattle.std.specs.Float.Ieee.{to_bits}
use Rattle.std.specs.Int.{to_le_bytes}
use Rattle.numbers.specs.Bytes.{lowest_first}
use Rattle.filled.specs.Filled.{Filled}
use Rattle.filled.proofs.Filling.{split}
use Rattle.rows.specs.Rows.{byte_cell}
use Rattle.rows.proofs.lanes.places.U8Place64.row_of.Goals as goal

le_bytes : (n : ℕ) → to_le_bytes w32 n ≡ lowest_first 4 n
le_bytes n =
    let e2 : n / 65536 % 256 ≡ n / 256 / 256 % 256 = omega arith in
    let e3 : n / 16777216 % 256 ≡ n / 256 / 256 / 256 % 256 = omega arith in
    cc

-- The bytes of level i, behind those of the levels before it.
module _ (f : ℕ → Float) (i : ℕ) (row row' xs : List ℕ) (xs_are : xs ≡ to_le_bytes w32 (to_bits binary32 (f i)))
    (before : (c : ℕ) → c < 4 * i → get_or row c 0 ≡ byte_cell f c) (F : Filled 0 (λ j. get_or xs (j - 4 * i) 0) (4 * i) (4 * i + 4) row row') where
  bytes_more : (c : ℕ) → c < 4 * (i + 1) → get_or row' c 0 ≡ byte_cell f c
  bytes_more c h = go (split c (4 * i))
    where
      go : (c < 4 * i) ⊎ (4 * i ≤ c) → get_or row' c 0 ≡ byte_cell f c
      go (inl p) = F.before c p ∙ before c p
      go (inr p) =
          let lane : i ≡ c / 4 = omega arith in
          let place : c - 4 * i ≡ c % 4 = omega arith in
          F.inside c p (omega arith)
          ∙ ap (λ (x : List ℕ). get_or x (c - 4 * i) 0) (xs_are ∙ le_bytes (to_bits binary32 (f i)))
          ∙ ap (λ (j : ℕ). get_or (lowest_first 4 (to_bits binary32 (f i))) j 0) place
          ∙ ap (λ (k : ℕ). get_or (lowest_first 4 (to_bits binary32 (f k))) (c % 4) 0) lane

pub loop-i-preserved : goal.loop-i-preserved
loop-i-preserved c =
    let l = c.loop-i in
    let bytes = c.to_le_bytes.ensures ∙ ap (to_le_bytes w32) c.f32_to_bits-bits.ensures in
    (c.put.auto.out ∙ l.invariant.0, bytes_more (λ i. get_or c.args.y.now i nan) l.i l.row _ _ bytes l.invariant.1 (c.put.ensures 0))
