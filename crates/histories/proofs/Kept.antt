-- An accepted call moves each voice of the bank as its effect moves the voice's history: `kept`, a line for each call, over a law for each kind of
-- change: none, one voice, all voices, frames (by induction on them), the voices of a chord (by induction on its list). So a call keeps the simulation
-- relation between a bank and its histories.
use mathlib.Core.Path.{◌≡◌, refl, sym, ap, ◌∙◌}
use mathlib.Core.Bool.{Bool, true, false, cond}
use mathlib.Core.List.{List, [], ◌∷◌}
use Prim.Native.Nat.{ℕ, zero, suc, ◌/◌, ◌<◌}
use native.Mathlib.Omega.{arith}
use borrow.Author.Tests.{eqb-true}
use lib.Dec.{eqb}
use lib.ListN.{replicate}
use Rattle.std.specs.List.{fold}
use Rattle.timing.specs.declared.Timing.{Timing}
use Rattle.settings.specs.declared.settings.Trigger.{Trigger}
use Rattle.lane.specs.declared.lanes.Voice.{Voice}
use Rattle.envelope.specs.declared.envelopes.Envelope.{Envelope}
use Rattle.bank.specs.declared.known.Known.{Known}
use Rattle.bank.specs.Calls.{Call, learned, refusal}
use Rattle.rows.specs.Strides.{stride_of}
use Rattle.bank.specs.Banks.{Bank, voice, size, known, envelope, put, on_all, with_timing, frame, frames, triggered, after_accepted}
use Rattle.bank.proofs.Frames.{size-put, voice-put, size-on_all, voice-on_all}
use Rattle.bank.proofs.Accepted.{voice_there}
use Rattle.histories.specs.Demand.{Entry, run, step, Effect, enter, copy, only, chord_entries, effect}
use Rattle.histories.proofs.Lists.{run-append}

-- What an effect copies from is one of n voices.
abbrev pub Live : ℕ → Effect → Type 0
Live n (enter es) = Unit {0}
Live n (copy u) = u < n

-- What an effect makes of the voice w, where the voices stand as in e.
abbrev pub acted : (ℕ → Envelope) → ℕ → Effect → Envelope
acted e w (enter es) = run step (e w) es
acted e w (copy u) = e u

-- The bank b' is b with the effects x on its voices, and k is known of it.
pub record Kept (b : Bank) (x : ℕ → Effect) (k : Known) (b' : Bank) : Type 0 where
  pub knows : known b' ≡ k
  pub voices : size b' ≡ size b
  pub live : (w : ℕ) → Live (size b) (x w)
  pub at : (w : ℕ) → w < size b → envelope b' w ≡ acted (envelope b) w (x w)

-- Of banks of as many voices the same is known.
pub as_many : {m n : ℕ} → m ≡ n → ◌≡◌ {A = Known} (record { voices = m }) (record { voices = n })
as_many e = ap {B = Known} (λ (n : ℕ). record { voices = n }) e

abbrev pub alone : Timing → Voice → Envelope
alone t c = record { voice = c; timing = t }

-- Nothing moves.
none : (b : Bank) → Kept b (λ w. enter []) (known b) b
none b = record { knows = refl; voices = refl; live = λ w. tt; at = λ w h. refl }

-- The voice v becomes c.
one : (b : Bank) (v : ℕ) (c : Voice) (x : Effect) → Live (size b) x → alone b.timing c ≡ acted (envelope b) v x
    → Kept b (λ w. only v w x) (known b) (put v c b)
one b v c x l e =
    record {
      knows = as_many (size-put b v c);
      voices = size-put b v c;
      live = λ w. alive (eqb w v);
      at = λ w h. ap (alone b.timing) (voice-put b v c w h) ∙ go w (eqb w v) refl;
    }
  where
    alive : (t : Bool) → Live (size b) (cond t x (enter []))
    alive true = l
    alive false = tt

    go : (w : ℕ) (t : Bool) → eqb w v ≡ t → alone b.timing (cond t c (voice b w)) ≡ acted (envelope b) w (cond t x (enter []))
    go w true p = rw (eqb-true w v p) e
    go w false p = refl

-- The timing becomes t, and each voice c becomes f c: what the entries es do to it.
each : (b : Bank) (t : Timing) (f : Voice → Voice) (es : List Entry) → ((c : Voice) → alone t (f c) ≡ run step (alone b.timing c) es)
    → Kept b (λ w. enter es) (known b) (on_all f (with_timing t b))
each b t f es e =
    record {
      knows = as_many (size-on_all f b);
      voices = size-on_all f b;
      live = λ w. tt;
      at = λ w h. ap (alone t) (voice-on_all b f w h) ∙ e (voice b w);
    }

-- n frames pass.
pub kept-frames : (n : ℕ) (b : Bank) → Kept b (λ w. enter (replicate n Entry.frame)) (known b) (frames n b)
unfolding step
kept-frames zero b = none b
kept-frames (suc n) b =
    let now : Kept b (λ w. enter (Entry.frame ∷ [])) (known b) (frame b) = each b b.timing _ (Entry.frame ∷ []) (λ c. refl) in
    let then : Kept (frame b) (λ w. enter (replicate n Entry.frame)) (known (frame b)) (frames n (frame b)) = kept-frames n (frame b) in
    record {
      knows = then.knows ∙ now.knows;
      voices = then.voices ∙ now.voices;
      live = λ w. tt;
      at = λ w h.
          let i : w < size (frame b) = omega (arith, now.voices) in
          then.at w i ∙ ap (λ (e : Envelope). run step e (replicate n Entry.frame)) (now.at w h);
    }

-- The voices of a chord are triggered, one after the other.
pub kept-chord : (x : Trigger) (vs : List ℕ) (b : Bank) → Kept b (λ w. enter (chord_entries x vs w)) (known b) (fold (triggered x) b vs)
unfolding step
kept-chord x [] b = none b
kept-chord x (v ∷ vs) b =
    let now : Kept b (λ w. only v w (enter (Entry.trigger x ∷ []))) (known b) (triggered x b v) = one b v _ (enter (Entry.trigger x ∷ [])) tt refl in
    let then : Kept (triggered x b v) (λ w. enter (chord_entries x vs w)) (known (triggered x b v)) (fold (triggered x) (triggered x b v) vs) =
    kept-chord x vs (triggered x b v)
    in
    record {
      knows = then.knows ∙ now.knows;
      voices = then.voices ∙ now.voices;
      live = λ w. tt;
      at = λ w h.
          let i : w < size (triggered x b v) = omega (arith, now.voices) in
          then.at w i
          ∙ ap (λ (e : Envelope). run step e (chord_entries x vs w)) (now.at w h ∙ entered w (eqb w v))
          ∙ sym (run-append step (envelope b w) (cond (eqb w v) (Entry.trigger x ∷ []) []) (chord_entries x vs w));
    }
  where
    entered : (w : ℕ) (t : Bool)
        → acted (envelope b) w (cond t (enter (Entry.trigger x ∷ [])) (enter [])) ≡ run step (envelope b w) (cond t (Entry.trigger x ∷ []) [])
    entered w true = refl
    entered w false = refl

-- An accepted call.
pub kept : (b : Bank) (c : Call) → refusal (known b) c ≡ 0 → Kept b (effect (known b) c) (learned (known b) c) (after_accepted b c)
unfolding after_accepted effect refusal step
kept b (Call.set_params v p) a = one b v _ (enter (Entry.params p ∷ [])) tt refl
kept b (Call.set_all_params p) a = each b b.timing _ (Entry.params p ∷ []) (λ c. refl)
kept b (Call.set_timing t) a = each b t _ (Entry.timing t ∷ []) (λ c. refl)
kept b (Call.trigger v x) a = one b v _ (enter (Entry.trigger x ∷ [])) tt refl
kept b (Call.chord vs x) a = kept-chord x vs b
kept b (Call.release v) a = one b v _ (enter (Entry.release ∷ [])) tt refl
kept b (Call.reset v) a = one b v _ (enter (Entry.reset ∷ [])) tt refl
kept b (Call.join v u) a = one b v _ (copy u) (voice_there (known b) u 0 (voice_there (known b) v _ a).1).0 refl
kept b (Call.process len) a = kept-frames (len / stride_of (size b)) b
kept b (Call.ask q) a = none b
