-- Rows of levels, drawn from an array of floats, and as they are stored: a level is one float of an output, or four of its bytes.
use Rattle.std.specs.Prelude.{◌≡◌, cond, List, [], ◌∷◌, ℕ, ◌+◌, ◌*◌, ◌/◌, ◌%◌, ◌≤◌, ◌<◌, ltb, length, get_or, Float}
use Rattle.std.specs.Float.{nan, binary32}
use Rattle.std.specs.Float.Ieee.{to_bits}
use Rattle.numbers.specs.Bytes.{lowest_first}
use Rattle.numbers.specs.Constants as Constants
use Rattle.numbers.specs.Constants.{one}
use Rattle.curve.specs.Segments.{level_from, next_u, u_after}
use Rattle.filled.specs.Filled.{Filled}
use Rattle.memory.specs.Memory.{lanes, floats_length, u_at, r_at, d_at, scale_at, base_at, columns_at}

-- An array is as long as its type says.
abbrev pub Whole : List Float → Type 0
Whole f = length f ≡ floats_length

-- ---- lanes

-- Lane i of an array: its u after k rows, and its level in row k.
abbrev pub u_after_rows : ℕ → List Float → ℕ → Float
u_after_rows k f i = u_after k (u_at f i) (r_at f i) (d_at f i)

abbrev pub drawn_at : ℕ → List Float → ℕ → Float
drawn_at k f i = level_from (u_after_rows k f i) (scale_at f i) (base_at f i)

-- Sixteen lanes from lane g on whose u a row leaves as it is.
abbrev pub Still : ℕ → List Float → Type 0
Still g f = (i : ℕ) → i < 16 → u_after_rows 1 f (g + i) ≡ u_at f (g + i)

-- u, r, d, scale and base of a lane that stays, and whose level is +0 in every row.
abbrev pub silence : List Float
silence = Constants.zero ∷ one ∷ Constants.zero ∷ Constants.zero ∷ Constants.zero ∷ []

abbrev pub Silent : List Float → ℕ → Type 0
Silent f w = columns_at f w ≡ silence

-- The lanes of a row of `stride` lanes that are none of n voices are silent, and every other number is kept.
pub record Cleared (n stride : ℕ) (f f' : List Float) : Type 0 where
  pub long : length f' ≡ length f
  pub spare : (w : ℕ) → n ≤ w → w < stride → Silent f' w
  pub kept : (i : ℕ) → ((j w : ℕ) → j < 5 → n ≤ w → w < stride → i ≡ w + lanes * j → ⊥) → get_or f' i nan ≡ get_or f i nan

-- ---- sixteen lanes, taken out of the array

-- x is the sixteen numbers from place a on.
pub record Loaded (a : ℕ) (f x : List Float) : Type 0 where
  pub long : length x ≡ 16
  pub lane : (i : ℕ) → i < 16 → get_or x i nan ≡ get_or f (a + i) nan

-- Lane i of them: its level, and its u one row on.
abbrev pub levels_at : List Float → List Float → List Float → ℕ → Float
levels_at u s b i = level_from (get_or u i nan) (get_or s i nan) (get_or b i nan)

abbrev pub steps_at : List Float → List Float → List Float → ℕ → Float
steps_at u r d i = next_u (get_or u i nan) (get_or r i nan) (get_or d i nan)

-- y is their levels.
abbrev pub Levels : List Float → List Float → List Float → List Float → Type 0
Levels u s b y = (i : ℕ) → i < 16 → get_or y i nan ≡ levels_at u s b i

-- ---- what is stored

-- Place c of a row: of levels in floats, of numbers in four bytes each, and of levels in bytes.
abbrev pub float_cell : (ℕ → Float) → ℕ → Float
float_cell f c = f c

abbrev pub word_cell : (ℕ → ℕ) → ℕ → ℕ
word_cell w c = get_or (lowest_first 4 (w (c / 4))) (c % 4) 0

abbrev pub byte_cell : (ℕ → Float) → ℕ → ℕ
byte_cell f c = word_cell (λ i. to_bits binary32 (f i)) c

-- ---- what is drawn

-- Sixteen lanes from lane g on, and their `wide` places from place `at` of a row on, are there: rows of `stride` places fit the output.
pub record GroupFits (wide stride at rows places g : ℕ) (f : List Float) : Type 0 where
  pub narrow : stride ≤ 4 * wide
  pub inside : at + wide ≤ stride
  pub room : rows * stride ≤ places
  pub grouped : g ≤ 48
  pub whole : Whole f

-- All rows, if they fit an output of so many places, else none.
abbrev pub fitting : ℕ → ℕ → ℕ → ℕ
fitting rows stride places = cond (ltb places (rows * stride)) 0 rows

module _ {A : Type 0} (z : A) (wide : ℕ) (cell : (ℕ → Float) → ℕ → A) where
  -- The levels y k of sixteen lanes take the places from `at` on in each row k of `rows` rows; the places before them and past these
  -- rows are kept.
  pub record Laid (stride at rows : ℕ) (y : ℕ → ℕ → Float) (o o' : List A) : Type 0 where
    pub levels : (k c : ℕ) → k < rows → c < wide → get_or o' (k * stride + (at + c)) z ≡ cell (y k) c
    pub kept : (k c : ℕ) → c < at → get_or o' (k * stride + c) z ≡ get_or o (k * stride + c) z
    pub past : (j : ℕ) → rows * stride ≤ j → get_or o' j z ≡ get_or o j z

  -- The sixteen lanes from lane g on are drawn, and moved on in the array.
  pub record GroupDrawn (stride at g rows : ℕ) (f : List Float) (o o' : List A) (f' : List Float) : Type 0 where
    pub laid : Laid stride at rows (λ k i. drawn_at k f (g + i)) o o'
    pub moved : Filled nan (u_after_rows rows f) g (g + 16) f f'

  -- `rows` rows of every lane of the groups are drawn, and what is past them is kept. Each of these lanes is moved on.
  pub record Drawn (groups rows : ℕ) (f : List Float) (o o' : List A) (f' : List Float) : Type 0 where
    pub levels : (k c : ℕ) → k < rows → c < wide * groups → get_or o' (k * (wide * groups) + c) z ≡ cell (drawn_at k f) c
    pub past : (j : ℕ) → rows * (wide * groups) ≤ j → get_or o' j z ≡ get_or o j z
    pub long : length o' ≡ length o
    pub moved : Filled nan (u_after_rows rows f) 0 (16 * groups) f f'
