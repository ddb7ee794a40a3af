-- The search for the stage to enter and the sum of the stages' lengths, one stage at a time: an untimed stage ends both, a timed one with samples
-- left from its place on ends the search, and else both go on from the next stage. These are the step lemmas of `find` and `stages_last`; by cases on
-- the stage. After a timed stage one timed stage less is left (`timed-next`), which is the measure of both.
use mathlib.Core.Path.{◌≡◌, refl}
use mathlib.Core.Bool.{true, false, true≢false, false≢true}
use Prim.Native.Nat.{suc, ◌+◌, ◌≤◌, ◌<◌}
use borrow.Author.Tests.{lt-ltb, le-ltb}
use lib.Ieee.{Float}
use Rattle.timing.specs.declared.Timing.{Timing}
use Rattle.settings.specs.declared.settings.EnvelopeParams.{EnvelopeParams}
use Rattle.settings.specs.declared.stages.Stage.{Stage}
use Rattle.settings.specs.declared.stages.Stage.TheVariants.{Idle, Delay, Attack, Hold, Decay, Sustain, Release}
use Rattle.settings.specs.Stages.{next, is_untimed, timed_stages}
use Rattle.lane.specs.Planning.{spec, join, find, find_from}
use Rattle.lane.specs.Readings.{lasts, last_from}

pub timed-next : (s : Stage) → is_untimed s ≡ false → timed_stages s ≡ suc (timed_stages (next s))
timed-next Idle h = absurd (true≢false h)
timed-next Delay h = refl
timed-next Attack h = refl
timed-next Hold h = refl
timed-next Decay h = refl
timed-next Sustain h = absurd (true≢false h)
timed-next Release h = refl

pub untimed-none : (s : Stage) → is_untimed s ≡ true → timed_stages s ≡ 0
untimed-none Idle h = refl
untimed-none Delay h = absurd (false≢true h)
untimed-none Attack h = absurd (false≢true h)
untimed-none Hold h = absurd (false≢true h)
untimed-none Decay h = absurd (false≢true h)
untimed-none Sustain h = refl
untimed-none Release h = absurd (false≢true h)

module _ (p : EnvelopeParams) (t : Timing) (s : Stage) (level : Float) where
  pub find-untimed : is_untimed s ≡ true
      → let sp = spec p s t level in find p t s level ≡ record { stage = s; spec = sp; joined = record { from = sp.to; pos = 0 } }
  unfolding find find_from
  find-untimed h = rw (untimed-none s h)

  pub find-timed : is_untimed s ≡ false
      → let sp = spec p s t level in let j = join p s level sp in j.pos < sp.total → find p t s level ≡ record { stage = s; spec = sp; joined = j }
  unfolding find find_from
  find-timed h k = rw (timed-next s h, lt-ltb (join p s level (spec p s t level)).pos (spec p s t level).total k)

  pub find_skips : is_untimed s ≡ false
      → let sp = spec p s t level in sp.total ≤ (join p s level sp).pos → find p t s level ≡ find p t (next s) sp.to
  unfolding find find_from
  find_skips h k = rw (timed-next s h, le-ltb (join p s level (spec p s t level)).pos (spec p s t level).total k)

  pub last-untimed : is_untimed s ≡ true → last_from (timed_stages s) p t s level ≡ 0
  unfolding last_from
  last-untimed h = rw (untimed-none s h)

  pub last-timed : is_untimed s ≡ false
      → last_from (timed_stages s) p t s level ≡ lasts p t s level + last_from (timed_stages (next s)) p t (next s) (spec p s t level).to
  unfolding last_from
  last-timed h = rw (timed-next s h)
