-- A stage that is entered lasts its count less its place, and then the next is entered (`Passes`); one that has nothing left from its place on is
-- skipped, and so lasts 0 frames. By cases on whether samples are left from the place on; then frame by frame (`stays`), and the last one (`ends`).
use mathlib.Core.Path.{◌≡◌, refl, sym, ap, ap₂, ◌∙◌, subst}
use mathlib.Core.Bool.{Bool, true, false}
use Prim.Native.Nat.{ℕ, ◌+◌, ◌-◌, ◌≤◌, ◌<◌}
use native.Mathlib.Omega.{arith}
use borrow.Author.Tests.{ltb-true, ltb-false}
use lib.Dec.{ltb}
use lib.Ieee.{Float}
use Rattle.timing.specs.declared.Timing.{Timing}
use Rattle.settings.specs.declared.settings.EnvelopeParams.{EnvelopeParams}
use Rattle.settings.specs.declared.stages.Stage.{Stage}
use Rattle.settings.specs.declared.stages.Stage.TheVariants.{Sustain}
use Rattle.lane.specs.declared.lanes.Spec.{Spec}
use Rattle.lane.specs.declared.lanes.Joined.{Joined}
use Rattle.lane.specs.declared.lanes.Lane.{Lane}
use Rattle.lane.specs.declared.lanes.Voice.{Voice}
use Rattle.settings.specs.Stages.{next, is_untimed}
use Rattle.lane.specs.Planning.{spec, join, start_segment, find_from, find, begin_untimed, begin, settle, enter, past_segment}
use Rattle.lane.specs.Voices.{frames}
use Rattle.lane.specs.Readings.{rest, lasts}
use Rattle.lane.proofs.Finding.{find-timed, find_skips}
use Rattle.lane.proofs.Counts.{largest, counted}
use Rattle.lane.proofs.Frames.{frames-add, frames-untimed}
use Rattle.lane.proofs.Timed.{Timed, begin-timed, rest_some, ends, stays}

-- The stage s by the plan's settings, and where it begins that is entered at ℓ.
module _ (l : Lane) (t : Timing) (s : Stage) (ℓ : Float) where
  abbrev pub planned : Spec
  planned = spec l.params s t ℓ

  abbrev pub joined : Joined
  joined = join l.params s ℓ planned

  pub enter-begins : is_untimed s ≡ false → joined.pos < planned.total → enter l t s ℓ ≡ begin l s planned joined.from planned.total joined.pos
  unfolding enter settle
  enter-begins e h = rw (find-timed l.params t s ℓ e h, e)

  pub enter_skips : is_untimed s ≡ false → planned.total ≤ joined.pos → enter l t s ℓ ≡ enter l t (next s) planned.to
  unfolding enter
  enter_skips e h = ap (settle l) (find_skips l.params t s ℓ e h)

-- v is as a plan with the settings p enters the stage s at ℓ.
abbrev pub Entering : EnvelopeParams → Timing → Voice → Stage → Float → Type 0
Entering p t v s ℓ = (l : Lane) × (l.params ≡ p) × (v ≡ enter l t s ℓ)

-- v is in the stage s for as long as that lasts, and then enters the next.
pub record Passes (p : EnvelopeParams) (t : Timing) (v : Voice) (s : Stage) (ℓ : Float) : Type 0 where
  pub during : (k : ℕ) → k < lasts p t s ℓ → (frames k t v).lane.stage ≡ s
  pub follows : Entering p t (frames (lasts p t s ℓ) t v) (next s) (spec p s t ℓ).to

pub runs-out : (B : ℕ) → B ≤ largest → (t : Timing) (v : Voice) → Timed B v
    → Entering v.lane.params t (frames (rest v) t v) (next v.lane.stage) v.lane.to
unfolding past_segment
runs-out B large t v q =
    let n = rest v - 1 in
    let i : 1 ≤ rest v = rest_some B v q in
    let e : rest v ≡ n + 1 = omega arith in
    let w = frames n t v in
    let o = stays B large t n v q (omega arith) in (
      past_segment w.lane,
      o.params,
      ap (λ (x : ℕ). frames x t v) e ∙ frames-add t n 1 v ∙ ends B large t w o.still (omega arith)
          ∙ ap₂ (λ (s : Stage) (ℓ : Float). enter (past_segment w.lane) t (next s) ℓ) o.stage o.to,
    )

enter-passes : (l : Lane) (t : Timing) (s : Stage) (ℓ : Float) → is_untimed s ≡ false → Passes l.params t (enter l t s ℓ) s ℓ
unfolding lasts begin start_segment
enter-passes l t s ℓ e = go (ltb at.pos sp.total) refl
  where
    sp : Spec
    sp = planned l t s ℓ

    at : Joined
    at = joined l t s ℓ

    x : Voice
    x = begin l s sp at.from sp.total at.pos

    go : (b : Bool) → ltb at.pos sp.total ≡ b → Passes l.params t (enter l t s ℓ) s ℓ
    go true b =
        let h : at.pos < sp.total = ltb-true at.pos sp.total b in
        let (q, r) = begin-timed largest l s sp at.from sp.total at.pos h (omega arith) (counted l.params t s ℓ) in
        rw (enter-begins l t s ℓ e h)
        (record {
          during = λ k i. (stays largest (omega arith) t k x q (omega arith)).stage;
          follows = rw r at (runs-out largest (omega arith) t x q);
        })
    go false b =
        let h : sp.total ≤ at.pos = ltb-false at.pos sp.total b in
        let z : sp.total - at.pos ≡ 0 = omega arith in
        record { during = λ k i. absurd (omega arith); follows = rw z (l, refl, enter_skips l t s ℓ e h) }

module _ (t : Timing) (p : EnvelopeParams) where
  pub passes : (v : Voice) (s : Stage) (ℓ : Float) → is_untimed s ≡ false → Entering p t v s ℓ → Passes p t v s ℓ
  passes v s ℓ e (l, i, w) =
      subst (λ (x : Voice). Passes p t x s ℓ) (sym w)
      (subst (λ (x : EnvelopeParams). Passes x t (enter l t s ℓ) s ℓ) i (enter-passes l t s ℓ e))

  pub sustains : (k : ℕ) (v : Voice) (ℓ : Float) → Entering p t v Sustain ℓ → (frames k t v).lane.stage ≡ Sustain
  unfolding enter find find_from settle begin_untimed
  sustains k v ℓ (l, i, w) =
      ap (λ (x : Voice). (frames k t x).lane.stage) w ∙ ap (λ (x : Voice). x.lane.stage) (frames-untimed t k (enter l t Sustain ℓ) refl)
