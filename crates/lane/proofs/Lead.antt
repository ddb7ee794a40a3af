-- Lead is exact: were only frames to follow, a sound voice with Sustain ahead is in Sustain after so many frames, and not before. The rest of the
-- present stage and the lengths of those to come add up, stage by stage (`until_add`), and under the limits their sum does not saturate
-- (`lead_plain`). After a trigger that starts the stages over, lead is what is left of them.
use mathlib.Core.Path.{◌≡◌, refl, sym, ap, ◌∙◌}
use mathlib.Core.Bool.{Bool, true, false, cond, true≢false, false≢true}
use mathlib.Core.Logic.{◌≢◌}
use Prim.Native.Nat.{ℕ, zero, suc, ◌+◌, ◌-◌, ◌*◌, ◌≤◌, ◌<◌}
use native.Mathlib.Nat.{suc-mul, mul-le-mul_right}
use native.Mathlib.Omega.{arith}
use borrow.Author.Tests.{ltb-true, ltb-false, lt-ltb, le-ltb}
use lib.Dec.{ltb}
use lib.Ieee.{Float}
use Rattle.numbers.specs.Counts.{saturated}
use Rattle.timing.specs.declared.Timing.{Timing}
use Rattle.timing.specs.Samples.{samples}
use Rattle.settings.specs.declared.settings.EnvelopeParams.{EnvelopeParams}
use Rattle.settings.specs.declared.settings.Trigger.{Trigger}
use Rattle.settings.specs.declared.stages.Stage.{Stage}
use Rattle.settings.specs.declared.stages.Stage.TheVariants.{Idle, Delay, Attack, Hold, Decay, Sustain, Release}
use Rattle.lane.specs.declared.lanes.Voice.{Voice}
use Rattle.settings.specs.Stages.{next, is_untimed, timed_stages, is_before_sustain}
use Rattle.lane.specs.Planning.{spec}
use Rattle.lane.specs.Voices.{leaves_alone, note_level, trigger, frames}
use Rattle.lane.specs.Readings.{rest, lasts, last_from, lead}
use Rattle.lane.specs.Schedule.{scheduled}
use Rattle.lane.proofs.Counts.{largest, Counted, counted}
use Rattle.lane.proofs.Frames.{frames-add, frames-from}
use Rattle.lane.proofs.Timed.{Timed, stays}
use Rattle.lane.proofs.Entering.{Entering, runs-out, passes, sustains}
use Rattle.lane.proofs.Sound.{Sound, untimed_stage, timed_stage, restart-sound, frames-sound}
use Rattle.lane.proofs.Lengths.{attack_lasts, lengths}

-- In Sustain after n frames, and not before.
pub record Until (t : Timing) (v : Voice) (n : ℕ) : Type 0 where
  pub before : (k : ℕ) → k < n → (frames k t v).lane.stage ≢ Sustain
  pub then : (frames n t v).lane.stage ≡ Sustain

module _ (t : Timing) where
  pub until_unique : (v : Voice) (m n : ℕ) → Until t v m → Until t v n → m ≡ n
  until_unique v m n a b = go (ltb m n) (ltb n m) refl refl
    where
      go : (x y : Bool) → ltb m n ≡ x → ltb n m ≡ y → m ≡ n
      go true y e f = absurd (b.before m (ltb-true m n e) a.then)
      go false true e f = absurd (a.before n (ltb-true n m f) b.then)
      go false false e f = omega (arith, ltb-false m n e, ltb-false n m f)

  pub until_later : (v : Voice) (m n : ℕ) → m ≤ n → Until t v n → Until t (frames m t v) (n - m)
  until_later v m n h u =
      record {
        before = λ k i s. u.before (m + k) (omega arith) (ap (λ (x : Voice). x.lane.stage) (frames-add t m k v) ∙ s);
        then = rw (frames-from t m n v h) at u.then;
      }

  -- n frames in a stage that takes time, and then m.
  until_add : (v : Voice) (s : Stage) (n m : ℕ) → is_untimed s ≡ false → ((k : ℕ) → k < n → (frames k t v).lane.stage ≡ s)
      → Until t (frames n t v) m → Until t v (n + m)
  until_add v s n m e w u = record { before = λ k h i. early k (ltb k n) refl h i; then = rw (frames-add t n m v) u.then }
    where
      early : (k : ℕ) (x : Bool) → ltb k n ≡ x → k < n + m → (frames k t v).lane.stage ≡ Sustain → ⊥
      early k true y h i = true≢false (sym (ap is_untimed (sym (w k (ltb-true k n y)) ∙ i)) ∙ e)
      early k false y h i =
          let l : n ≤ k = ltb-false k n y in
          u.before (k - n) (omega arith) (rw (frames-from t n k v l) at i)

-- ---- a sound voice

takes_time : (s : Stage) → is_before_sustain s ≡ true → is_untimed s ≡ false
takes_time Idle a = absurd (false≢true a)
takes_time Delay a = refl
takes_time Attack a = refl
takes_time Hold a = refl
takes_time Decay a = refl
takes_time Sustain a = absurd (false≢true a)
takes_time Release a = absurd (false≢true a)

-- The sum that `lead` saturates at the largest u64.
abbrev pub lead_sum : Timing → Voice → ℕ
lead_sum t v = let s = next v.lane.stage in rest v + last_from (timed_stages s) v.lane.params t s v.lane.to

module _ (t : Timing) (p : EnvelopeParams) where
  until_entered : (s : Stage) (ℓ : Float) (m : ℕ) → is_untimed s ≡ false
      → ((w : Voice) → Entering p t w (next s) (spec p s t ℓ).to → Until t w m)
      → (v : Voice) → Entering p t v s ℓ → Until t v (lasts p t s ℓ + m)
  until_entered s ℓ m e f v i =
      let q = passes t p v s ℓ e i in
      until_add t v s (lasts p t s ℓ) m e q.during (f (frames (lasts p t s ℓ) t v) q.follows)

  until_now : (ℓ : Float) (v : Voice) → Entering p t v Sustain ℓ → Until t v 0
  until_now ℓ v i = record { before = λ k h. absurd (omega arith); then = sustains t p 0 v ℓ i }

  until_next : (s : Stage) → is_before_sustain s ≡ true → (ℓ : Float) (v : Voice) → Entering p t v (next s) ℓ
      → Until t v (last_from (timed_stages (next s)) p t (next s) ℓ)
  unfolding last_from
  until_next Idle a ℓ = absurd (false≢true a)
  until_next Delay a ℓ = until_entered Attack ℓ _ refl (until_entered Hold _ _ refl (until_entered Decay _ _ refl (until_now _)))
  until_next Attack a ℓ = until_entered Hold ℓ _ refl (until_entered Decay _ _ refl (until_now _))
  until_next Hold a ℓ = until_entered Decay ℓ _ refl (until_now _)
  until_next Decay a ℓ = until_now ℓ
  until_next Sustain a ℓ = absurd (false≢true a)
  until_next Release a ℓ = absurd (false≢true a)

is-timed : (B : ℕ) (v : Voice) → Sound B v → is_before_sustain v.lane.stage ≡ true → Timed B v
is-timed B v (timed_stage e q) a = q
is-timed B v (untimed_stage e u) a = absurd (true≢false (sym e ∙ takes_time v.lane.stage a))

pub lead_sum_exact : (B : ℕ) → B ≤ largest → (t : Timing) (v : Voice) → Sound B v → is_before_sustain v.lane.stage ≡ true → Until t v (lead_sum t v)
lead_sum_exact B large t v i a =
    let q = is-timed B v i a in
    until_add t v v.lane.stage (rest v) _ (takes_time v.lane.stage a) (λ k h. (stays B large t k v q h).stage)
    (until_next t v.lane.params v.lane.stage a v.lane.to (frames (rest v) t v) (runs-out B large t v q))

-- ---- no sum saturates

last_from_le : (B : ℕ) (p : EnvelopeParams) (t : Timing) → Counted B p t → (n : ℕ) (s : Stage) (ℓ : Float) → last_from n p t s ℓ ≤ n * B
unfolding last_from lasts
last_from_le B p t c zero s ℓ = omega arith
last_from_le B p t c (suc n) s ℓ = omega (arith, c s ℓ, last_from_le B p t c n (next s) (spec p s t ℓ).to, suc-mul n B)

pub lead_plain : (B : ℕ) → 4 * B ≤ largest → (t : Timing) (v : Voice) → Counted B v.lane.params t → Sound B v
    → is_before_sustain v.lane.stage ≡ true → lead t v ≡ lead_sum t v
unfolding lead rest
lead_plain B b t v c i a =
    let s = next v.lane.stage in
    let q = is-timed B v i a in
    let r = last_from_le B v.lane.params t c (timed_stages s) s v.lane.to in
    let f : lead_sum t v ≤ largest = omega (arith, mul-le-mul_right B (three v.lane.stage)) in
    rw a (omega arith)
  where
    three : (s : Stage) → timed_stages (next s) ≤ 3
    three Idle = omega arith
    three Delay = omega arith
    three Attack = omega arith
    three Hold = omega arith
    three Decay = omega arith
    three Sustain = omega arith
    three Release = omega arith

-- Under document 01's limits B is 659,706,976,665,600.
pub lead_exact : (B : ℕ) → 4 * B ≤ largest → (t : Timing) (v : Voice) → Counted B v.lane.params t → Sound B v
    → is_before_sustain v.lane.stage ≡ true → Until t v (lead t v)
lead_exact B b t v c i a = rw (lead_plain B b t v c i a) (lead_sum_exact B (omega arith) t v i a)

-- ---- after a trigger that starts the stages over

module _ (d a h c : ℕ) where
  scheduled-leads : (k : ℕ) → k < d + a + h + c → is_before_sustain (scheduled d a h c k) ≡ true
  unfolding scheduled
  scheduled-leads k i = rw (lt-ltb k (d + a + h + c) i) (go (ltb k d) (ltb k (d + a)) (ltb k (d + a + h)))
    where
      go : (x y z : Bool) → is_before_sustain (cond x Delay (cond y Attack (cond z Hold Decay))) ≡ true
      go true y z = refl
      go false true z = refl
      go false false true = refl
      go false false false = refl

  scheduled-ends : (k : ℕ) → d + a + h + c ≤ k → scheduled d a h c k ≡ Sustain
  unfolding scheduled
  scheduled-ends k i =
      rw (le-ltb k d (omega arith), le-ltb k (d + a) (omega arith), le-ltb k (d + a + h) (omega arith), le-ltb k (d + a + h + c) i)

-- The frames from such a trigger, at ℓ, until Sustain.
abbrev pub until_sustain : Timing → EnvelopeParams → Float → ℕ
until_sustain t p ℓ = samples t p.delay p.unit + attack_lasts t p ℓ + samples t p.hold p.unit + samples t p.decay p.unit

module _ (t : Timing) (x : Trigger) (v : Voice) (e : leaves_alone x v ≡ false) where
  abbrev span : ℕ
  span = until_sustain t v.lane.params (note_level x v)

  leads : (k : ℕ) → k < span → is_before_sustain (frames k t (trigger t x v)).lane.stage ≡ true
  leads k h = rw (lengths t x v k e) (scheduled-leads _ _ _ _ k h)

  pub until_sustain_lem : Until t (trigger t x v) span
  until_sustain_lem =
      record {
        before = λ k h i. true≢false (sym (leads k h) ∙ ap is_before_sustain i);
        then = lengths t x v span e ∙ scheduled-ends _ _ _ _ span (omega arith);
      }

  pub lead_sum_scheduled : (j : ℕ) → j < span → lead_sum t (frames j t (trigger t x v)) ≡ span - j
  lead_sum_scheduled j h =
      let w = frames j t (trigger t x v) in
      let s = restart-sound largest t x v (counted v.lane.params t) e in
      let i = frames-sound largest t (omega arith) j (trigger t x v) (counted (trigger t x v).lane.params t) s in
      until_unique t w (lead_sum t w) (span - j) (lead_sum_exact largest (omega arith) t w i (leads j h))
      (until_later t (trigger t x v) j span (omega arith) until_sustain_lem)

  -- At every frame: in Sustain nothing is left.
  pub lead-scheduled : (j : ℕ) → lead t (frames j t (trigger t x v)) ≡ saturated (span - j)
  unfolding lead
  lead-scheduled j = go (ltb j span) refl
    where
      go : (y : Bool) → ltb j span ≡ y → lead t (frames j t (trigger t x v)) ≡ saturated (span - j)
      go true y = let h : j < span = ltb-true j span y in rw (leads j h) (ap saturated (lead_sum_scheduled j h))
      go false y =
          let h : span ≤ j = ltb-false j span y in
          let z : span - j ≡ 0 = omega arith in
          rw (lengths t x v j e ∙ scheduled-ends _ _ _ _ j h, z)
