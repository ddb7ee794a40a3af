-- What an accepted call enters is within the limits: by cases on the call, and by induction on the list. So the envelope of each voice's history is
-- one that calls on a single envelope leave, and what is proved of those (`Reachable`) holds of it: lead is exact, and no sum saturates.
use mathlib.Core.Path.{◌≡◌, refl, sym, ap, ◌∙◌, subst}
use mathlib.Core.Bool.{Bool, true, false, cond}
use mathlib.Core.List.{List, [], ◌∷◌, ◌++◌}
use Prim.Native.Nat.{ℕ, zero, suc, ◌/◌}
use lib.Dec.{ltb, eqb}
use lib.ListN.{replicate}
use lib.Ieee.{lt, of_bits}
use Rattle.numbers.specs.Constants as Constants
use Rattle.timing.specs.Clock as Clock
use Rattle.settings.specs.declared.settings.Trigger.{Trigger}
use Rattle.settings.specs.Settings.{amp}
use Rattle.settings.specs.Refusals as Refusals
use Rattle.settings.specs.Refusals.{time_over, rate_over}
use Rattle.lane.specs.Readings as Readings
use Rattle.envelope.specs.declared.envelopes.Envelope.{Envelope}
use Rattle.envelope.specs.Envelopes as Envelopes
use Rattle.envelope.specs.Calls as Single
use Rattle.envelope.specs.Calls.{after, after_all}
use Rattle.envelope.proofs.Reachable.{Reachable, reachable, reachable-lead}
use Rattle.envelope.proofs.Runs.{frames-voice}
use Rattle.memory.specs.Memory.{max_voices}
use Rattle.bank.specs.declared.known.Known.{Known}
use Rattle.bank.specs.Calls.{Opening, opening, Call, if_accepted, opening_refusal, opened, refusal}
use Rattle.rows.specs.Strides.{stride_of}
use Rattle.bank.proofs.Accepted.{voice_there}
use Rattle.histories.specs.Demand.{Entry, Fresh, run, step, envelope_of, Effect, enter, copy, only, chord_entries, effect, after_effect}
use Rattle.histories.specs.Demand.{Histories, extended, after_call, fresh_histories, histories_of, history_of, LeadExact}

-- ---- what is entered

abbrev Limited : Entry → Type 0
Limited (Entry.params p) = Refusals.params p ≡ 0
Limited (Entry.timing t) = Refusals.timing t ≡ 0
Limited (Entry.trigger x) = Unit {0}
Limited Entry.release = Unit {0}
Limited Entry.reset = Unit {0}
Limited Entry.frame = Unit {0}

abbrev All : List Entry → Type 0
All [] = Unit {0}
All (x ∷ xs) = Limited x × All xs

all_append : (xs ys : List Entry) → All xs → All ys → All (xs ++ ys)
all_append [] ys p q = q
all_append (x ∷ xs) ys p q = (p.0, all_append xs ys p.1 q)

all_frames : (n : ℕ) → All (replicate n Entry.frame)
all_frames zero = tt
all_frames (suc n) = (tt, all_frames n)

abbrev Enters : Effect → Type 0
Enters (enter es) = All es
Enters (copy u) = Unit {0}

only_enters : (v w : ℕ) (x : Effect) → Enters x → Enters (only v w x)
only_enters v w x p = go (eqb w v)
  where
    go : (t : Bool) → Enters (cond t x (enter []))
    go true = p
    go false = tt

chord_entries_limited : (x : Trigger) (vs : List ℕ) (w : ℕ) → All (chord_entries x vs w)
chord_entries_limited x [] w = tt
chord_entries_limited x (v ∷ vs) w = all_append (cond (eqb w v) (Entry.trigger x ∷ []) []) (chord_entries x vs w) (go (eqb w v)) (chord_entries_limited x vs w)
  where
    go : (t : Bool) → All (cond t (Entry.trigger x ∷ []) [])
    go true = (tt, tt)
    go false = tt

accepted_enters : (k : Known) (c : Call) (w : ℕ) → refusal k c ≡ 0 → Enters (effect k c w)
unfolding refusal effect
accepted_enters k (Call.set_params v p) w a = only_enters v w (enter (Entry.params p ∷ [])) ((voice_there k v _ a).1, tt)
accepted_enters k (Call.set_all_params p) w a = (a, tt)
accepted_enters k (Call.set_timing t) w a = (a, tt)
accepted_enters k (Call.trigger v x) w a = only_enters v w (enter (Entry.trigger x ∷ [])) (tt, tt)
accepted_enters k (Call.chord vs x) w a = chord_entries_limited x vs w
accepted_enters k (Call.release v) w a = only_enters v w (enter (Entry.release ∷ [])) (tt, tt)
accepted_enters k (Call.reset v) w a = only_enters v w (enter (Entry.reset ∷ [])) (tt, tt)
accepted_enters k (Call.join v u) w a = only_enters v w (copy u) tt
accepted_enters k (Call.process len) w a = all_frames (len / stride_of k.voices)
accepted_enters k (Call.ask q) w a = tt

-- The fresh settings and timing f, and each voice's entries within the limits.
abbrev Fine : Fresh → Histories → Type 0
Fine f r = (r.fresh ≡ f) × ((w : ℕ) → All (r.entries w))

after_effect_fine : (es : ℕ → List Entry) → ((w : ℕ) → All (es w)) → (w : ℕ) (x : Effect) → Enters x → All (after_effect es w x)
after_effect_fine es p w (enter new) q = all_append (es w) new (p w) q
after_effect_fine es p w (copy u) q = p u

after_call_fine : (f : Fresh) (r : Histories) (c : Call) → Fine f r → Fine f (after_call r c)
unfolding after_call
after_call_fine f r c p = go (refusal r.known c) refl
  where
    go : (n : ℕ) → refusal r.known c ≡ n → Fine f (if_accepted n (extended r c) r)
    go zero e = (p.0, λ w. after_effect_fine r.entries p.1 w (effect r.known c w) (accepted_enters r.known c w e))
    go (suc n) e = p

run_fine : (f : Fresh) (cs : List Call) (r : Histories) → Fine f r → Fine f (run after_call r cs)
run_fine f [] r p = p
run_fine f (c ∷ cs) r p = run_fine f cs (after_call r c) (after_call_fine f r c p)

histories_of_fine : (o : Opening) (cs : List Call) → Fine (record { params = (opened o).params; timing = (opened o).timing }) (histories_of o cs)
unfolding histories_of fresh_histories
histories_of_fine o cs = run_fine _ cs (fresh_histories o) (refl, λ w. tt)

amp_fine : Refusals.fresh amp (Clock.new Constants.zero) ≡ 0
unfolding Refusals.fresh Refusals.params time_over rate_over lt of_bits
amp_fine = refl

-- What is opened is within the limits.
opened_fine : (o : Opening) → Refusals.fresh (opened o).params (opened o).timing ≡ 0
unfolding opened opening_refusal
opened_fine o = go (ltb max_voices o.voices) (Refusals.fresh o.params o.timing) refl
  where
    none : Opening
    none = opening 0 amp (Clock.new Constants.zero)

    fresh : Opening → ℕ
    fresh o = Refusals.fresh o.params o.timing

    go : (t : Bool) (n : ℕ) → fresh o ≡ n → fresh (if_accepted (cond t 1 n) o none) ≡ 0
    go true n e = amp_fine
    go false zero e = e
    go false (suc n) e = amp_fine

-- ---- the single envelope

abbrev call_of : Entry → Single.Call
call_of (Entry.params p) = Single.Call.params p
call_of (Entry.timing t) = Single.Call.timing t
call_of (Entry.trigger x) = Single.Call.trigger x
call_of Entry.release = Single.Call.release
call_of Entry.reset = Single.Call.reset
call_of Entry.frame = Single.Call.process 1

abbrev calls_of : List Entry → List Single.Call
calls_of [] = []
calls_of (x ∷ xs) = call_of x ∷ calls_of xs

step-called : (e : Envelope) (x : Entry) → Limited x → step e x ≡ after e (call_of x)
unfolding step
step-called e (Entry.params p) l = rw l
step-called e (Entry.timing t) l = rw l
step-called e (Entry.trigger x) l = refl
step-called e Entry.release l = refl
step-called e Entry.reset l = refl
step-called e Entry.frame l = refl

run-called : (es : List Entry) (e : Envelope) → All es → run step e es ≡ after_all e (calls_of es)
run-called [] e p = refl
run-called (x ∷ es) e p = run-called es (step e x) p.1 ∙ ap (λ (y : Envelope). after_all y (calls_of es)) (step-called e x p.0)

pub history-reachable : (o : Opening) (cs : List Call) (v : ℕ) → Reachable (envelope_of (history_of o cs v))
unfolding envelope_of
history-reachable o cs v =
    let p = (opened o).params in
    let t = (opened o).timing in
    let es = (histories_of o cs).entries v in
    let f = histories_of_fine o cs in
    let e : run step (Envelopes.idle p t) es ≡ after_all (Envelopes.fresh p t).envelope (calls_of es) =
    run-called es (Envelopes.idle p t) (f.1 v) ∙ rw (opened_fine o)
    in
    subst Reachable (sym (ap (λ (x : Fresh). run step (Envelopes.idle x.params x.timing) es) f.0 ∙ e)) (reachable p t (calls_of es))

pub history_lead_exact : (o : Opening) (cs : List Call) (v : ℕ) → LeadExact (envelope_of (history_of o cs v))
unfolding Readings.lead
history_lead_exact o cs v =
    let e = envelope_of (history_of o cs v) in
    let u = reachable-lead e (history-reachable o cs v) in
    record {
      then = λ a. ap Envelopes.stage (frames-voice (Envelopes.lead e) e) ∙ (u a).then;
      before = λ a k h i. (u a).before k h (ap Envelopes.stage (sym (frames-voice k e)) ∙ i);
      none = λ a. rw a;
    }
