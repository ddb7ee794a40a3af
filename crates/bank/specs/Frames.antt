-- What drawing frames leaves: the voices that many frames on, and their levels in the output. No public statement cites this file.
use Rattle.std.specs.Prelude.{cond, ◌≡◌, List, ℕ, ◌+◌, ◌*◌, ◌≤◌, ◌<◌, min, ltb, Float, length, get_or}
use Rattle.numbers.specs.Constants as Constants
use Rattle.timing.specs.declared.Timing.{Timing}
use Rattle.curve.specs.Segments as Segments
use Rattle.lane.specs.Voices as Voices
use Rattle.memory.specs.declared.arrays.Arrays.{Arrays}
use Rattle.memory.specs.Memory.{voices_at, timing_at, voice_at}
use Rattle.rows.specs.Strides.{groups_of, stride_of}
use Rattle.rows.specs.Rows.{Cleared}
use Rattle.bank.specs.Lent.{KeptFrom, Silenced}

-- ---- the arrays

-- After `done` frames of the first n voices.
pub record Ran (n : ℕ) (t : Timing) (m₀ : Arrays) (done : ℕ) (m : Arrays) : Type 0 where
  pub voice : (v : ℕ) → v < n → voice_at m v ≡ Voices.frames done t (voice_at m₀ v)
  pub spare : (w : ℕ) → n ≤ w → w < stride_of n → Silenced w m₀ m
  pub beside : KeptFrom (stride_of n) m₀ m
  pub voices : voices_at m.codes ≡ voices_at m₀.codes
  pub timing : timing_at m.bends ≡ timing_at m₀.bends

-- Other floats in the same arrays.
abbrev pub with_floats : List Float → Arrays → Arrays
with_floats f m = record { bends = m.bends; counts = m.counts; floats = f; codes = m.codes }

-- ---- the output

-- Lane i of row k.
abbrev pub lane_at : ℕ → Timing → Arrays → ℕ → ℕ → Float
lane_at n t m₀ k i = cond (ltb i n) (Segments.level (Voices.frames k t (voice_at m₀ i)).seg) Constants.zero

module _ {A : Type 0} (z : A) (wide : ℕ) (cell : (ℕ → Float) → ℕ → A) where
  -- The first `done` rows hold the levels y, and what is past them is kept.
  pub record Shown (groups : ℕ) (y : ℕ → ℕ → Float) (done : ℕ) (o₀ o : List A) : Type 0 where
    pub levels : (k c : ℕ) → k < done → c < wide * groups → get_or o (k * (wide * groups) + c) z ≡ cell (y k) c
    pub past : (j : ℕ) → done * (wide * groups) ≤ j → get_or o j z ≡ get_or o₀ j z
    pub long : length o ≡ length o₀

  -- `done` frames of n voices have passed, and been shown.
  pub record Going (n : ℕ) (m₀ : Arrays) (o₀ : List A) (done : ℕ) (m : Arrays) (o : List A) : Type 0 where
    pub ran : Ran n (timing_at m₀.bends) m₀ done m
    pub shown : Shown (groups_of n) (lane_at n (timing_at m₀.bends) m₀) done o₀ o

  -- The spare lanes of n voices were cleared, and then `frames` frames have passed and been shown.
  pub record Played (n frames : ℕ) (m₀ : Arrays) (o₀ : List A) (m : Arrays) (o : List A) : Type 0 where
    pub floats : List Float
    pub cleared : Cleared (min n 64) (stride_of (min n 64)) m₀.floats floats
    pub going : Going n (with_floats floats m₀) o₀ frames m o
