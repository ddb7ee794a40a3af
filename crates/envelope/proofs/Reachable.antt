-- `Reachable`, an invariant of the calls: the times and the rate are within the limits, and the voice is sound. A fresh envelope has it, and each
-- call, accepted or refused, keeps it (`after-reachable`, by cases on the call); so it holds after every list of calls, by induction. There no sum
-- saturates and no difference stops at 0 (`reachable-unguarded`), so that each definition is literally the Rust's; and lead is exact.
use mathlib.Core.Path.{◌≡◌, refl, sym, ap, ◌∙◌}
use mathlib.Core.Bool.{Bool, true, false, cond, true≢false}
use mathlib.Core.List.{List, [], ◌∷◌}
use Prim.Native.Nat.{ℕ, zero, suc}
use native.Mathlib.Omega.{arith}
use lib.Dec.{eqb}
use lib.Ieee.{lt, of_bits}
use Rattle.timing.specs.declared.Timing.{Timing}
use Rattle.settings.specs.declared.settings.EnvelopeParams.{EnvelopeParams}
use Rattle.lane.specs.declared.lanes.Voice.{Voice}
use Rattle.settings.specs.Stages.{is_untimed, is_before_sustain}
use Rattle.lane.specs.Planning as Planning
use Rattle.settings.specs.Refusals as Refusals
use Rattle.settings.specs.Refusals.{time_over, rate_over}
use Rattle.lane.specs.Voices as Voices
use Rattle.lane.proofs.Counts.{Counted, most, counted_limited}
use Rattle.lane.proofs.Timed.{Unguarded, unguarded}
use Rattle.lane.proofs.Sound.{Sound, untimed_stage, timed_stage, new-sound, trigger-sound, release-sound, reset-sound, replan-sound, set_params-sound, frame-sound}
use Rattle.lane.proofs.Sound.{trigger-params, release-params, reset-params, replan-params, frame-params}
use Rattle.lane.proofs.Lead.{Until, lead_exact}
use Rattle.envelope.specs.declared.envelopes.Envelope.{Envelope}
use Rattle.envelope.specs.Envelopes.{idle, fallback, answer, fresh, stage, lead, frame, frames}
use Rattle.envelope.specs.Calls.{Call, after, after_all}

pub record Reachable (e : Envelope) : Type 0 where
  pub times : time_over e.voice.lane.params ≡ false
  pub rate : rate_over e.timing ≡ false
  pub sound : Sound most e.voice

-- An envelope with a sound voice whose settings stayed.
kept : (e : Envelope) (v : Voice) → Reachable e → v.lane.params ≡ e.voice.lane.params → Sound most v
    → Reachable (record { voice = v; timing = e.timing })
kept e v r s i = record { times = ap time_over s ∙ r.times; rate = r.rate; sound = i }

counts : (e : Envelope) → Reachable e → Counted most e.voice.lane.params e.timing
counts e r = counted_limited e.voice.lane.params e.timing r.times r.rate

-- What is accepted is within the limit.
accepted : (x : Bool) (n : ℕ) → eqb (cond x (suc n) 0) 0 ≡ true → x ≡ false
accepted x n e = grind arith

answer_reachable : (n : ℕ) (a b : Envelope) → Reachable a → (eqb n 0 ≡ true → Reachable b) → Reachable (answer n a b).envelope
answer_reachable n a b p q = go (eqb n 0) q
  where
    go : (x : Bool) → (x ≡ true → Reachable b) → Reachable (cond x b a)
    go true q = q refl
    go false q = p

fallback-reachable : Reachable fallback
unfolding Planning.new time_over rate_over lt of_bits
fallback-reachable = record { times = refl; rate = refl; sound = new-sound most _ }

fresh-reachable : (p : EnvelopeParams) (t : Timing) → Reachable (fresh p t).envelope
unfolding Refusals.fresh Refusals.params Planning.new
fresh-reachable p t =
    answer_reachable (Refusals.fresh p t) fallback (idle p t) fallback-reachable
    (λ e. let f = within (rate_over t) (time_over p) e in record { times = f.1; rate = f.0; sound = new-sound most p })
  where
    within : (x y : Bool) → eqb (cond x 4 (cond y 3 0)) 0 ≡ true → (x ≡ false) × (y ≡ false)
    within x y e = (grind arith, grind arith)

frames-reachable : (n : ℕ) (e : Envelope) → Reachable e → Reachable (frames n e)
frames-reachable zero e r = r
frames-reachable (suc n) e r =
    frames-reachable n (frame e)
    (kept e (Voices.frame e.timing e.voice) r (frame-params e.timing e.voice) (frame-sound most e.timing (omega arith) e.voice (counts e r) r.sound))

after-reachable : (e : Envelope) (c : Call) → Reachable e → Reachable (after e c)
unfolding Refusals.params Refusals.timing Voices.set_params Voices.with_params
after-reachable e (Call.params p) r =
    answer_reachable (Refusals.params p) e _ r (λ a. go (accepted (time_over p) 2 a))
  where
    t : Timing
    t = e.timing

    v : Voice
    v = e.voice

    go : time_over p ≡ false → Reachable (record { voice = Voices.set_params t p v; timing = t })
    go g =
        record {
          times = ap time_over (replan-params t (Voices.with_params p v)) ∙ g;
          rate = r.rate;
          sound = set_params-sound most t p v (counted_limited p t g r.rate) r.sound;
        }
after-reachable e (Call.timing t) r =
    answer_reachable (Refusals.timing t) e _ r (λ a.
    let f = accepted (rate_over t) 3 a in
    record {
      times = ap time_over (replan-params t e.voice) ∙ r.times;
      rate = f;
      sound = replan-sound most t e.voice (counted_limited e.voice.lane.params t r.times f) r.sound;
    })
after-reachable e (Call.trigger x) r =
    kept e _ r (trigger-params e.timing x e.voice) (trigger-sound most e.timing x e.voice (counts e r) r.sound)
after-reachable e Call.release r =
    kept e _ r (release-params e.timing e.voice) (release-sound most e.timing e.voice (counts e r) r.sound)
after-reachable e Call.reset r = kept e _ r (reset-params e.timing e.voice) (reset-sound most e.timing e.voice (counts e r))
after-reachable e (Call.process n) r = frames-reachable n e r

all_reachable : (cs : List Call) (e : Envelope) → Reachable e → Reachable (after_all e cs)
all_reachable [] e r = r
all_reachable (c ∷ cs) e r = all_reachable cs (after e c) (after-reachable e c r)

-- Every envelope that calls from a fresh one left, accepted or refused.
pub reachable : (p : EnvelopeParams) (t : Timing) (cs : List Call) → Reachable (after_all (fresh p t).envelope cs)
reachable p t cs = all_reachable cs (fresh p t).envelope (fresh-reachable p t)

-- In a stage that takes time no sum saturates and no difference stops at 0.
pub reachable-unguarded : (e : Envelope) → Reachable e → is_untimed (stage e) ≡ false → Unguarded e.voice
reachable-unguarded e r h = go r.sound
  where
    go : Sound most e.voice → Unguarded e.voice
    go (untimed_stage g u) = absurd (true≢false (sym g ∙ h))
    go (timed_stage g q) = unguarded most (omega arith) e.voice q

-- Were only frames to follow, Sustain comes after exactly lead's number of them.
pub reachable-lead : (e : Envelope) → Reachable e → is_before_sustain (stage e) ≡ true → Until e.timing e.voice (lead e)
reachable-lead e r a = lead_exact most (omega arith) e.timing e.voice (counts e r) r.sound a
