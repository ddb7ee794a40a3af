-- An envelope holds the last settings and timing that its history entered, by cases on an entry and induction on the history; so the stages after a
-- note are counted by those.
use mathlib.Core.Path.{◌≡◌, refl, ap, ap₂, ◌∙◌}
use mathlib.Core.Bool.{false}
use mathlib.Core.List.{List, [], ◌∷◌, ◌++◌}
use Prim.Native.Nat.{ℕ, zero, suc}
use lib.ListN.{replicate}
use Rattle.timing.specs.declared.Timing.{Timing}
use Rattle.settings.specs.declared.settings.EnvelopeParams.{EnvelopeParams}
use Rattle.settings.specs.declared.settings.Trigger.{Trigger}
use Rattle.settings.specs.declared.settings.Trigger.TheVariants.{New}
use Rattle.settings.specs.declared.stages.Stage.{Stage}
use Rattle.lane.specs.Planning as Planning
use Rattle.lane.specs.Voices as Voices
use Rattle.lane.specs.Voices.{leaves_alone, note_level}
use Rattle.lane.proofs.Sound.{trigger-params, release-params, reset-params, replan-params, frame-params}
use Rattle.lane.proofs.NewNote.{new-note-place}
use Rattle.envelope.specs.declared.envelopes.Envelope.{Envelope}
use Rattle.envelope.specs.Envelopes as Envelopes
use Rattle.envelope.proofs.Notes.{stage-lengths}
use Rattle.histories.specs.Demand.{Entry, History, run, more, frames_more, step, envelope_of}
use Rattle.histories.specs.Demand.{latest_params, latest_timing, settings_of, timing_of, place, stage_after, NoteLengths}
use Rattle.histories.proofs.Lists.{run-append}

entry_kept : (e : Envelope) (x : Entry)
    → (Envelopes.params (step e x) ≡ latest_params (Envelopes.params e) x) × ((step e x).timing ≡ latest_timing e.timing x)
unfolding step Voices.set_params Voices.with_params
entry_kept e (Entry.params q) = (replan-params e.timing (Voices.with_params q e.voice), refl)
entry_kept e (Entry.timing t) = (replan-params t e.voice, refl)
entry_kept e (Entry.trigger x) = (trigger-params e.timing x e.voice, refl)
entry_kept e Entry.release = (release-params e.timing e.voice, refl)
entry_kept e Entry.reset = (reset-params e.timing e.voice, refl)
entry_kept e Entry.frame = (frame-params e.timing e.voice, refl)

run-kept : (es : List Entry) (e : Envelope)
    → (Envelopes.params (run step e es) ≡ run latest_params (Envelopes.params e) es) × ((run step e es).timing ≡ run latest_timing e.timing es)
run-kept [] e = (refl, refl)
run-kept (x ∷ es) e =
    let q = entry_kept e x in
    let r = run-kept es (step e x) in
    (r.0 ∙ ap (λ (p : EnvelopeParams). run latest_params p es) q.0, r.1 ∙ ap (λ (t : Timing). run latest_timing t es) q.1)

history-kept : (h : History) → (Envelopes.params (envelope_of h) ≡ settings_of h) × ((envelope_of h).timing ≡ timing_of h)
unfolding envelope_of settings_of timing_of Planning.new
history-kept h = run-kept h.entries (Envelopes.idle h.fresh.params h.fresh.timing)

run-frames : (k : ℕ) (e : Envelope) → run step e (replicate k Entry.frame) ≡ Envelopes.frames k e
unfolding step
run-frames zero e = refl
run-frames (suc k) e = run-frames k (Envelopes.frame e)

-- A trigger and k frames, run.
triggered : (h : History) (x : Trigger) (k : ℕ)
    → envelope_of (frames_more k (more h (Entry.trigger x ∷ []))) ≡ Envelopes.frames k (Envelopes.trigger x (envelope_of h))
unfolding envelope_of step
triggered h x k =
    let e = Envelopes.idle h.fresh.params h.fresh.timing in
    run-append step e (h.entries ++ Entry.trigger x ∷ []) (replicate k Entry.frame)
    ∙ ap (λ (y : Envelope). run step y (replicate k Entry.frame)) (run-append step e h.entries (Entry.trigger x ∷ []))
    ∙ run-frames k (Envelopes.trigger x (envelope_of h))

pub note-lengths : (h : History) (k : ℕ) → NoteLengths h k
unfolding place leaves_alone note_level
note-lengths h k =
    record {
      stage = after;
      new_note = after New refl ∙ ap (λ (n : ℕ). stage_after (settings_of h) (timing_of h) n k) first;
    }
  where
    e : Envelope
    e = envelope_of h

    -- By the settings and timing that the envelope holds, which are the history's.
    counted : (x : Trigger) → EnvelopeParams → Timing → Stage
    counted x p t = stage_after p t (place p t (note_level x e.voice)) k

    after : (x : Trigger) → leaves_alone x e.voice ≡ false
        → Envelopes.stage (envelope_of (frames_more k (more h (Entry.trigger x ∷ [])))) ≡ counted x (settings_of h) (timing_of h)
    after x s = ap Envelopes.stage (triggered h x k) ∙ stage-lengths e x s k ∙ ap₂ (counted x) (history-kept h).0 (history-kept h).1

    first : place (settings_of h) (timing_of h) (note_level New e.voice) ≡ 0
    first = rw (history-kept h).0 (new-note-place (settings_of h) (timing_of h))
