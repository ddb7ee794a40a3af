-- What the bank's private functions promise each other. No public statement cites this file.
use Rattle.std.specs.Prelude.{cond, ◌≡◌, ℕ, ◌<◌, eqb, List}
use Rattle.std.specs.List.{fold}
use Rattle.timing.specs.declared.Timing.{Timing}
use Rattle.settings.specs.declared.settings.Trigger as Kinds
use Rattle.lane.specs.declared.lanes.Voice.{Voice}
use Rattle.lane.specs.Planning as Planning
use Rattle.lane.specs.Voices as Voices
use Rattle.memory.specs.declared.arrays.Arrays.{Arrays}
use Rattle.memory.specs.Memory.{count_of, voices_at, timing_at, voice_at}
use Rattle.rows.specs.Runs.{left_after}
use Rattle.bank.specs.declared.changes.Change.{Change}
use Rattle.bank.specs.declared.changes.Change.TheVariants.{Params, Replan, Trigger, Release, Reset, Join, Follow}
use Rattle.bank.specs.Calls.{if_accepted, voice_refusal}
use Rattle.bank.specs.Banks.{bank_of, known, voice, put, on_all, triggered}
use Rattle.bank.specs.Lent.{Kept, KeptFrom}

-- The voice after a change.
unfoldable pub changed : Timing → Change → Voice → Voice
changed t (Params p) x = Voices.set_params t p x
changed t Replan x = Voices.replan t x
changed t (Trigger y) x = Voices.trigger t y x
changed t Release x = Voices.release t x
changed t Reset x = Voices.reset t x
changed t (Join from) x = from
changed t Follow x = Planning.advance t x.lane

-- Each of the first e voices has been changed by g; every other number is as it was, which is the frame condition.
pub record Spread (g : Voice → Voice) (e : ℕ) (m m' : Arrays) : Type 0 where
  pub below : (w : ℕ) → w < e → voice_at m' w ≡ g (voice_at m w)
  pub above : KeptFrom e m m'
  pub voices : voices_at m'.codes ≡ voices_at m.codes
  pub timing : timing_at m'.bends ≡ timing_at m.bends

-- A call on the voice v, whose refusal is r.
pub record One (v : ℕ) (g : Voice → Voice) (r : ℕ) (m m' : Arrays) : Type 0 where
  pub refusal : r ≡ voice_refusal (known (bank_of m)) v 0
  pub bank : bank_of m' ≡ if_accepted r (put v (g (voice (bank_of m) v)) (bank_of m)) (bank_of m)
  pub kept : Kept r m m'

-- Every voice is changed.
pub record All (g : Voice → Voice) (m m' : Arrays) : Type 0 where
  pub bank : bank_of m' ≡ on_all g (bank_of m)
  pub beside : KeptFrom (count_of m.codes) m m'

-- Each of these voices has been triggered, one after the other.
pub record Chord (vs : List ℕ) (x : Kinds.Trigger) (m m' : Arrays) : Type 0 where
  pub bank : bank_of m' ≡ fold (triggered x) (bank_of m) vs
  pub beside : KeptFrom (count_of m.codes) m m'

-- A voice whose segment has ended has what follows it.
unfoldable pub followed : Timing → Voice → Voice
followed t x = cond (eqb x.seg.left 0) (Planning.advance t x.lane) x

-- A voice whose segment has m frames less left; and what it then has, if that has ended.
abbrev pub lessened : ℕ → Voice → Voice
lessened m x =
    record {
      lane = x.lane;
      seg =
          record {
            u = x.seg.u;
            r = x.seg.r;
            d = x.seg.d;
            scale = x.seg.scale;
            base = x.seg.base;
            left = left_after x.seg.left m;
          };
    }

abbrev pub passed : Timing → ℕ → Voice → Voice
passed t m x = followed t (lessened m x)
