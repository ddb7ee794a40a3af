-- How long the stages last after a trigger that starts them over, followed only by frames, and what lead then says. Both are laws of the voice, since
-- a frame of the envelope is one of its voice; a new note's attack begins at place 0 (`new-note-place`).
use mathlib.Core.Path.{◌≡◌, refl, ap, ◌∙◌}
use mathlib.Core.Bool.{false}
use Prim.Native.Nat.{ℕ, ◌-◌}
use native.Mathlib.Nat.{sub-zero}
use Rattle.numbers.specs.Counts.{saturated}
use Rattle.numbers.specs.Limits.{unit}
use Rattle.timing.specs.Samples.{samples}
use Rattle.settings.specs.declared.settings.Trigger.{Trigger}
use Rattle.settings.specs.declared.settings.Trigger.TheVariants.{New}
use Rattle.lane.specs.Voices.{leaves_alone, note_level}
use Rattle.lane.specs.Schedule.{scheduled}
use Rattle.lane.proofs.Lengths.{attack_lasts, lengths}
use Rattle.lane.proofs.Lead.{until_sustain, lead-scheduled}
use Rattle.lane.proofs.NewNote.{new-note-place}
use Rattle.envelope.specs.declared.envelopes.Envelope.{Envelope}
use Rattle.envelope.specs.Envelopes.{stage, lead, trigger, frames, params}
use Rattle.envelope.proofs.Runs.{frames-voice}

module _ (e : Envelope) (x : Trigger) (restarts : leaves_alone x e.voice ≡ false) (k : ℕ) where
  -- k frames after such a trigger the stage is the one that the counted samples say.
  pub stage-lengths :
      let p = params e in
      let t = e.timing in
      stage (frames k (trigger x e))
      ≡ scheduled (samples t p.delay p.unit) (attack_lasts t p (note_level x e.voice)) (samples t p.hold p.unit) (samples t p.decay p.unit) k
  stage-lengths = ap stage (frames-voice k (trigger x e)) ∙ lengths e.timing x e.voice k restarts

  -- Lead is what is left of them.
  pub lead-remainder : lead (frames k (trigger x e)) ≡ saturated (until_sustain e.timing (params e) (note_level x e.voice) - k)
  lead-remainder = ap lead (frames-voice k (trigger x e)) ∙ lead-scheduled e.timing x e.voice restarts k

-- A new note's attack begins at place 0, so that each stage lasts exactly its counted samples.
pub new-note-lengths : (e : Envelope) (k : ℕ)
    → let p = params e in
    let t = e.timing in
    stage (frames k (trigger New e))
    ≡ scheduled (samples t p.delay p.unit) (samples t p.attack p.unit) (samples t p.hold p.unit) (samples t p.decay p.unit) k
unfolding leaves_alone note_level
new-note-lengths e k =
    let p = params e in
    let t = e.timing in
    let whole : attack_lasts t p (unit p.start) ≡ samples t p.attack p.unit =
    ap (λ (n : ℕ). samples t p.attack p.unit - n) (new-note-place p t) ∙ sub-zero (samples t p.attack p.unit)
    in
    stage-lengths e New refl k
    ∙ ap (λ (a : ℕ). scheduled (samples t p.delay p.unit) a (samples t p.hold p.unit) (samples t p.decay p.unit) k) whole
