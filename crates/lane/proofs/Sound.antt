-- `Sound`, an invariant of a voice's calls and frames: the stage and its segment are untimed, or the stage takes time and the voice is `Timed`. A
-- fresh voice has it, entering a stage gives it whatever the voice was (`enter-sound`), and each call and each frame keeps it: by cases on the stage
-- and on the tests of the definition. Calls that do not set them leave the settings as they are, so the bound on counts stays too.
use mathlib.Core.Path.{◌≡◌, refl, sym, subst}
use mathlib.Core.Bool.{Bool, true, false, cond}
use Prim.Native.Nat.{ℕ, zero, suc, ◌-◌, ◌≤◌, ◌<◌}
use native.Mathlib.Omega.{arith}
use borrow.Author.Tests.{ltb-true, ltb-false, leb-false, eq-eqb}
use lib.Dec.{ltb, leb}
use lib.Ieee.{Float}
use Rattle.numbers.specs.Constants as Constants
use Rattle.timing.specs.declared.Timing.{Timing}
use Rattle.curve.specs.Segments.{level, untimed}
use Rattle.settings.specs.declared.settings.EnvelopeParams.{EnvelopeParams}
use Rattle.settings.specs.declared.settings.Trigger.{Trigger}
use Rattle.settings.specs.declared.stages.Stage.{Stage}
use Rattle.settings.specs.declared.stages.Stage.TheVariants.{Idle, Delay, Attack, Hold, Decay, Sustain, Release}
use Rattle.lane.specs.declared.lanes.Spec.{Spec}
use Rattle.lane.specs.declared.lanes.Joined.{Joined}
use Rattle.lane.specs.declared.lanes.Lane.{Lane}
use Rattle.lane.specs.declared.lanes.Voice.{Voice}
use Rattle.settings.specs.Stages.{next, is_untimed, ignores_release}
use Rattle.lane.specs.Planning.{new, spec, same, start_segment, find_from, find, begin_untimed, begin, settle, enter, past_segment, advance}
use Rattle.lane.specs.Voices.{leaves_alone, note_level, trigger, release, reset, elapsed, replan, with_params, set_params, stepped, frame, frames}
use Rattle.lane.specs.Readings.{rest}
use Rattle.lane.proofs.Counts.{largest, Counted}
use Rattle.lane.proofs.Timed.{Timed, begin-timed, rest_some, goes_on, ends}
use Rattle.lane.proofs.Entering.{planned, joined, enter-begins, enter_skips}

-- Its counts are at most B, which `counted` lets be `largest` for any settings and timing, and `counted_limited` far less under the limits.
pub data Sound (B : ℕ) (v : Voice) : Type 0 where
  untimed_stage : is_untimed v.lane.stage ≡ true → v.seg.left ≡ untimed → Sound B v
  timed_stage : is_untimed v.lane.stage ≡ false → Timed B v → Sound B v

cond-sound : (B : ℕ) (x : Bool) (v w : Voice) → Sound B v → Sound B w → Sound B (cond x v w)
cond-sound B true v w p q = p
cond-sound B false v w p q = q

-- ---- the settings stay

cond-params : (x : Bool) (v w : Voice) (p : EnvelopeParams) → v.lane.params ≡ p → w.lane.params ≡ p → (cond x v w).lane.params ≡ p
cond-params true v w p a b = a
cond-params false v w p a b = b

pub enter-params : (l : Lane) (t : Timing) (s : Stage) (ℓ : Float) → (enter l t s ℓ).lane.params ≡ l.params
unfolding enter settle begin_untimed begin start_segment
enter-params l t s ℓ = search cond-params

pub frame-params : (t : Timing) (v : Voice) → (frame t v).lane.params ≡ v.lane.params
unfolding frame advance past_segment start_segment
frame-params t v = search (cond-params, enter-params)

pub trigger-params : (t : Timing) (x : Trigger) (v : Voice) → (trigger t x v).lane.params ≡ v.lane.params
unfolding trigger
trigger-params t x v = search (cond-params, enter-params)

pub release-params : (t : Timing) (v : Voice) → (release t v).lane.params ≡ v.lane.params
unfolding release
release-params t v = search (cond-params, enter-params)

pub reset-params : (t : Timing) (v : Voice) → (reset t v).lane.params ≡ v.lane.params
unfolding reset
reset-params t v = enter-params v.lane t Idle Constants.zero

pub replan-params : (t : Timing) (v : Voice) → (replan t v).lane.params ≡ v.lane.params
unfolding replan begin_untimed begin start_segment
replan-params t v = search (cond-params, enter-params)

-- ---- the calls

pub new-sound : (B : ℕ) (p : EnvelopeParams) → Sound B (new p)
unfolding new
new-sound B p = untimed_stage refl refl

module _ (B : ℕ) (t : Timing) where
  first-sound : (l : Lane) (s : Stage) (ℓ : Float) → Counted B l.params t → is_untimed s ≡ false
      → Sound B (enter l t (next s) (planned l t s ℓ).to) → Sound B (enter l t s ℓ)
  unfolding begin start_segment
  first-sound l s ℓ c e i = go (ltb at.pos sp.total) refl
    where
      sp : Spec
      sp = planned l t s ℓ

      at : Joined
      at = joined l t s ℓ

      go : (x : Bool) → ltb at.pos sp.total ≡ x → Sound B (enter l t s ℓ)
      go true x =
          let h : at.pos < sp.total = ltb-true at.pos sp.total x in
          rw (enter-begins l t s ℓ e h) (timed_stage e (begin-timed B l s sp at.from sp.total at.pos h (omega arith) (c s ℓ)).0)
      go false x = rw (enter_skips l t s ℓ e (ltb-false at.pos sp.total x)) i

  pub enter-sound : (l : Lane) (s : Stage) (ℓ : Float) → Counted B l.params t → Sound B (enter l t s ℓ)
  unfolding enter find find_from settle begin_untimed
  enter-sound l Idle ℓ c = untimed_stage refl refl
  enter-sound l Sustain ℓ c = untimed_stage refl refl
  enter-sound l Release ℓ c = first-sound l Release ℓ c refl (untimed_stage refl refl)
  enter-sound l Decay ℓ c = first-sound l Decay ℓ c refl (untimed_stage refl refl)
  enter-sound l Hold ℓ c = first-sound l Hold ℓ c refl (first-sound l Decay _ c refl (untimed_stage refl refl))
  enter-sound l Attack ℓ c = first-sound l Attack ℓ c refl (first-sound l Hold _ c refl (first-sound l Decay _ c refl (untimed_stage refl refl)))
  enter-sound l Delay ℓ c =
      first-sound l Delay ℓ c refl (first-sound l Attack _ c refl (first-sound l Hold _ c refl (first-sound l Decay _ c refl (untimed_stage refl refl))))

  pub trigger-sound : (x : Trigger) (v : Voice) → Counted B v.lane.params t → Sound B v → Sound B (trigger t x v)
  unfolding trigger
  trigger-sound x v c i =
      cond-sound B (leaves_alone x v) v (enter v.lane t Delay (note_level x v)) i (enter-sound v.lane Delay (note_level x v) c)

  -- Whatever the voice was: a trigger that starts the stages over leaves a sound one.
  pub restart-sound : (x : Trigger) (v : Voice) → Counted B v.lane.params t → leaves_alone x v ≡ false → Sound B (trigger t x v)
  unfolding trigger
  restart-sound x v c e = rw e (enter-sound v.lane Delay (note_level x v) c)

  pub release-sound : (v : Voice) → Counted B v.lane.params t → Sound B v → Sound B (release t v)
  unfolding release
  release-sound v c i =
      cond-sound B (ignores_release v.lane.stage) v (enter v.lane t Release (level v.seg)) i (enter-sound v.lane Release (level v.seg) c)

  pub reset-sound : (v : Voice) → Counted B v.lane.params t → Sound B (reset t v)
  unfolding reset
  reset-sound v c = enter-sound v.lane Idle Constants.zero c

  pub replan-sound : (v : Voice) → Counted B v.lane.params t → Sound B v → Sound B (replan t v)
  unfolding replan begin_untimed begin start_segment
  replan-sound v c i = cond-sound B (same sp l.spec) v (cond (is_untimed l.stage) at_new_level stage_goes_on) i (go (is_untimed l.stage) refl)
    where
      l : Lane
      l = v.lane

      sp : Spec
      sp = spec l.params l.stage t l.to

      at_new_level : Voice
      at_new_level = begin_untimed l l.stage sp

      ended : Voice
      ended = enter l t (next l.stage) sp.to

      remainder : Voice
      remainder = begin l l.stage sp (level v.seg) (sp.total - elapsed v) 0

      stage_goes_on : Voice
      stage_goes_on = cond (leb sp.total (elapsed v)) ended remainder

      go_on : is_untimed l.stage ≡ false → (x : Bool) → leb sp.total (elapsed v) ≡ x → Sound B (cond x ended remainder)
      go_on e true x = enter-sound l (next l.stage) sp.to c
      go_on e false x =
          let h : elapsed v < sp.total = leb-false sp.total (elapsed v) x in
          timed_stage e (begin-timed B l l.stage sp (level v.seg) (sp.total - elapsed v) 0 (omega arith) (omega arith) (c l.stage l.to)).0

      go : (x : Bool) → is_untimed l.stage ≡ x → Sound B (cond x at_new_level stage_goes_on)
      go true e = untimed_stage e refl
      go false e = go_on e (leb sp.total (elapsed v)) refl

  pub set_params-sound : (p : EnvelopeParams) (v : Voice) → Counted B p t → Sound B v → Sound B (set_params t p v)
  unfolding set_params with_params
  set_params-sound p v c i = replan-sound (with_params p v) c (go i)
    where
      go : Sound B v → Sound B (with_params p v)
      go (untimed_stage e u) = untimed_stage e u
      go (timed_stage e q) = timed_stage e (omega arith)

  pub frame-sound : B ≤ largest → (v : Voice) → Counted B v.lane.params t → Sound B v → Sound B (frame t v)
  unfolding frame stepped past_segment
  frame-sound large v c (untimed_stage e u) = rw (eq-eqb v.seg.left untimed u) (untimed_stage e u)
  frame-sound large v c (timed_stage e q) = go (ltb 1 (rest v)) refl
    where
      go : (x : Bool) → ltb 1 (rest v) ≡ x → Sound B (frame t v)
      go true x =
          let o = goes_on B large t v q (ltb-true 1 (rest v) x) in
          timed_stage (subst (λ (s : Stage). is_untimed s ≡ false) (sym o.stage) e) o.still
      go false x =
          let h : rest v ≤ 1 = ltb-false 1 (rest v) x in
          rw (ends B large t v q (omega (arith, rest_some B v q))) (enter-sound (past_segment v.lane) (next v.lane.stage) v.lane.to c)

  pub frames-sound : B ≤ largest → (n : ℕ) (v : Voice) → Counted B v.lane.params t → Sound B v → Sound B (frames n t v)
  frames-sound large zero v c i = i
  frames-sound large (suc n) v c i =
      frames-sound large n (frame t v) (subst (λ (p : EnvelopeParams). Counted B p t) (sym (frame-params t v)) c) (frame-sound large v c i)
