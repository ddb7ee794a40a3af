-- Frame conditions: what a call leaves of the numbers that are lent to it and that its bank does not read.
use Rattle.std.specs.Prelude.{◌≢◌, ◌≡◌, ℕ, ◌≤◌, ◌<◌}
use Rattle.memory.specs.declared.arrays.Arrays.{Arrays}
use Rattle.memory.specs.Memory.{lanes, count_of, floats_at, bends_at, counts_at, codes_at, left_at, Same}
use Rattle.rows.specs.Strides.{stride_of}
use Rattle.rows.specs.Rows.{Silent}

-- The lanes from n on are as they were.
abbrev pub KeptFrom : ℕ → Arrays → Arrays → Type 0
KeptFrom n m m' = (w : ℕ) → n ≤ w → w < lanes → Same w m m'

-- The frame condition of a call: refused it leaves every number, and accepted the lanes that are no voices.
pub record Kept (refusal : ℕ) (m m' : Arrays) : Type 0 where
  pub refused : refusal ≢ 0 → m' ≡ m
  pub beside : KeptFrom (count_of m.codes) m m'

-- The numbers of lane w are as they were, but for its columns, which are those of a constant +0.
pub record Silenced (w : ℕ) (m m' : Arrays) : Type 0 where
  pub columns : Silent m'.floats w
  pub left : left_at m'.codes w ≡ left_at m.codes w
  pub floats : floats_at m'.floats w ≡ floats_at m.floats w
  pub bends : bends_at m'.bends w ≡ bends_at m.bends w
  pub counts : counts_at m'.counts w ≡ counts_at m.counts w
  pub codes : codes_at m'.codes w ≡ codes_at m.codes w

-- A refused process leaves every number. An accepted one silences the spare lanes of a row, and leaves those past it.
pub record Processed (refusal : ℕ) (m m' : Arrays) : Type 0 where
  pub refused : refusal ≢ 0 → m' ≡ m
  pub spare : refusal ≡ 0 → (w : ℕ) → count_of m.codes ≤ w → w < stride_of (count_of m.codes) → Silenced w m m'
  pub beside : KeptFrom (stride_of (count_of m.codes)) m m'
