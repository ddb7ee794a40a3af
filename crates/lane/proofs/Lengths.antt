-- Were only frames to follow: k frames after a trigger that starts the stages over the stage is the one that `scheduled` says. Each stage is entered
-- where the one before it ends and lasts its count less its place (`passes`); by cases, stage by stage, on whether k is before its end.
use mathlib.Core.Path.{◌≡◌, refl}
use mathlib.Core.Bool.{Bool, true, false, cond}
use Prim.Native.Nat.{ℕ, ◌+◌, ◌-◌, ◌≤◌, ◌<◌}
use native.Mathlib.Omega.{arith}
use native.Mathlib.Nat.{zero-add}
use borrow.Author.Tests.{ltb-true, ltb-false}
use lib.Dec.{ltb}
use lib.Ieee.{Float}
use Rattle.timing.specs.declared.Timing.{Timing}
use Rattle.timing.specs.Samples.{samples}
use Rattle.settings.specs.declared.settings.EnvelopeParams.{EnvelopeParams}
use Rattle.settings.specs.declared.settings.Trigger.{Trigger}
use Rattle.settings.specs.declared.stages.Stage.{Stage}
use Rattle.settings.specs.declared.stages.Stage.TheVariants.{Delay, Attack, Hold, Decay, Sustain}
use Rattle.lane.specs.declared.lanes.Voice.{Voice}
use Rattle.settings.specs.Stages.{next, is_untimed}
use Rattle.lane.specs.Planning.{spec, join, join_attack}
use Rattle.lane.specs.Voices.{leaves_alone, note_level, trigger, frames}
use Rattle.lane.specs.Readings.{lasts}
use Rattle.lane.specs.Schedule.{scheduled}
use Rattle.lane.proofs.Frames.{frames-add, frames-from}
use Rattle.lane.proofs.Entering.{Entering, Passes, passes, sustains}

-- How long the attack lasts that begins at ℓ: its count less its place.
abbrev pub attack_lasts : Timing → EnvelopeParams → Float → ℕ
attack_lasts t p ℓ = samples t p.attack p.unit - (join_attack p ℓ (spec p Attack t ℓ)).pos

module _ (t : Timing) (p : EnvelopeParams) (v : Voice) (k : ℕ) where
  -- The stage s is entered after m frames and lasts n; then the others.
  from : (m n : ℕ) (s others : Stage) (ℓ : Float) → is_untimed s ≡ false → n ≡ lasts p t s ℓ → Entering p t (frames m t v) s ℓ → m ≤ k
      → (Entering p t (frames (m + n) t v) (next s) (spec p s t ℓ).to → m + n ≤ k → (frames k t v).lane.stage ≡ others)
      → (frames k t v).lane.stage ≡ cond (ltb k (m + n)) s others
  from m n s others ℓ e z i h r = go (ltb k (m + n)) refl
    where
      q : Passes p t (frames m t v) s ℓ
      q = passes t p (frames m t v) s ℓ e i

      go : (x : Bool) → ltb k (m + n) ≡ x → (frames k t v).lane.stage ≡ cond x s others
      go true y =
          let j : k < m + n = ltb-true k (m + n) y in
          rw (frames-from t m k v h) (q.during (k - m) (omega arith))
      go false y = r (rw (frames-add t m n v) (rw z q.follows)) (ltb-false k (m + n) y)

  stages : (ℓ : Float) → Entering p t v Delay ℓ
      → (frames k t v).lane.stage
      ≡ scheduled (samples t p.delay p.unit) (attack_lasts t p ℓ) (samples t p.hold p.unit) (samples t p.decay p.unit) k
  unfolding scheduled lasts spec join
  stages ℓ i =
      let d = samples t p.delay p.unit in
      let a = attack_lasts t p ℓ in
      let h = samples t p.hold p.unit in
      let c = samples t p.decay p.unit in
      let m = 0 + d + a + h + c in
      simp zero-add at
      (from 0 d Delay _ ℓ refl (omega arith) i (omega arith) (λ i₁ j₁.
      from (0 + d) a Attack _ ℓ refl refl i₁ j₁ (λ i₂ j₂.
      from (0 + d + a) h Hold _ _ refl (omega arith) i₂ j₂ (λ i₃ j₃.
      from (0 + d + a + h) c Decay Sustain _ refl (omega arith) i₃ j₃ (λ i₄ j₄.
      rw (frames-from t m k v j₄) (sustains t p (k - m) (frames m t v) _ i₄))))))

-- After any trigger that does not leave the envelope alone.
pub lengths : (t : Timing) (x : Trigger) (v : Voice) (k : ℕ) → leaves_alone x v ≡ false
    → let p = v.lane.params in
    (frames k t (trigger t x v)).lane.stage
    ≡ scheduled (samples t p.delay p.unit) (attack_lasts t p (note_level x v)) (samples t p.hold p.unit) (samples t p.decay p.unit) k
unfolding trigger
lengths t x v k e = stages t v.lane.params (trigger t x v) k (note_level x v) (v.lane, refl, rw e)
