-- Places of a row, and which lanes they depend on: proved of floats, one to a level, and of bytes, four to a level.
use Rattle.std.specs.Prelude.{◌≡◌, ℕ, ◌+◌, ◌*◌, ◌/◌, ◌%◌, ◌<◌, get_or, Float, refl}
use Rattle.std.specs.Float.{binary32}
use Rattle.std.specs.Float.Ieee.{to_bits}
use Rattle.std.proofs.Common.{ap, ◌∙◌, arith}
use Rattle.numbers.specs.Bytes.{lowest_first}
use Rattle.rows.specs.Rows.{float_cell, byte_cell}

module _ {A : Type 0} (wide : ℕ) (cell : (ℕ → Float) → ℕ → A) where
  -- The places of n groups depend on the levels of those groups alone.
  abbrev pub ByLevels : Type 0
  ByLevels = (n : ℕ) (f g : ℕ → Float) → ((i : ℕ) → i < 16 * n → f i ≡ g i) → (c : ℕ) → c < wide * n → cell f c ≡ cell g c

  -- A place of a later group depends on that group's lanes as the first group's place on its own.
  abbrev pub Shifts : Type 0
  Shifts = (f : ℕ → Float) (q c : ℕ) → cell f (wide * q + c) ≡ cell (λ i. f (16 * q + i)) c

pub float_by_levels : ByLevels 16 float_cell
float_by_levels n f g e c h = e c h

pub float_shifts : Shifts 16 float_cell
float_shifts f q c = refl

-- Byte j of a level.
abbrev byte : ℕ → Float → ℕ
byte j x = get_or (lowest_first 4 (to_bits binary32 x)) j 0

pub byte_by_levels : ByLevels 64 byte_cell
byte_by_levels n f g e c h = ap (byte (c % 4)) (e (c / 4) (omega arith))

pub byte_shifts : Shifts 64 byte_cell
byte_shifts f q c =
    let lane : (64 * q + c) / 4 ≡ 16 * q + c / 4 = omega arith in
    let place : (64 * q + c) % 4 ≡ c % 4 = omega arith in
    ap (λ (i : ℕ). byte ((64 * q + c) % 4) (f i)) lane ∙ ap (λ (j : ℕ). byte j (f (16 * q + c / 4))) place
