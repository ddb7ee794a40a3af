-- Demand 3: every voice of a bank plays the envelope of its own history. One claim over whole lists of calls, from its terms, first to last, to
-- `Demand3`. Its proof is `demand3` in proofs/Demand.antt.
use Rattle.std.specs.Prelude.{◌≡◌, cond, true, false, List, [], ◌∷◌, ◌++◌, ◌≢◌, ℕ, zero, suc, ◌+◌, ◌*◌, ◌-◌, ◌/◌, ◌≤◌, ◌<◌, eqb, length, get_or, map, replicate, Float}
use Rattle.std.specs.List.{flat_map}
use Rattle.std.specs.Float.{nan}
use Rattle.numbers.specs.Constants as Constants
use Rattle.timing.specs.declared.Timing.{Timing}
use Rattle.timing.specs.Samples.{samples}
use Rattle.settings.specs.declared.settings.EnvelopeParams.{EnvelopeParams}
use Rattle.settings.specs.declared.settings.Trigger.{Trigger}
use Rattle.settings.specs.declared.settings.Trigger.TheVariants.{New}
use Rattle.settings.specs.declared.stages.Stage.{Stage}
use Rattle.settings.specs.declared.stages.Stage.TheVariants.{Attack, Sustain}
use Rattle.settings.specs.Stages.{is_before_sustain}
use Rattle.lane.specs.Planning.{spec, join_attack}
use Rattle.lane.specs.Voices.{leaves_alone, note_level}
use Rattle.lane.specs.Schedule.{scheduled}
use Rattle.envelope.specs.declared.envelopes.Envelope.{Envelope}
use Rattle.envelope.specs.Envelopes as Envelopes
use Rattle.bank.specs.declared.known.Known.{Known}
use Rattle.bank.specs.Calls.{Opening, Call, known_of, learned, if_accepted, opening_refusal, opened, refusal}
use Rattle.rows.specs.Strides.{stride_of}
use Rattle.bank.specs.Banks as Banks
use Rattle.bank.specs.Banks.{Bank}
use Rattle.bank.specs.Replies as Replies
use Rattle.bank.specs.Replies.{Reply}

-- ---- histories

-- What a history enters, without voice numbers.
pub data Entry : Type 0 where
  params : EnvelopeParams → Entry
  timing : Timing → Entry
  trigger : Trigger → Entry
  release reset frame : Entry

-- What it begins with: the fresh settings and timing.
pub record Fresh : Type 0 where
  pub params : EnvelopeParams
  pub timing : Timing

pub record History : Type 0 where
  pub fresh : Fresh
  pub entries : List Entry

-- One after the other, from the left.
abbrev pub run : {A E : Type 0} → (A → E → A) → A → List E → A
run f a [] = a
run f a (e ∷ es) = run f (f a e) es

-- A history with entries more, and with k frames more.
abbrev pub more : History → List Entry → History
more h es = record { fresh = h.fresh; entries = h.entries ++ es }

abbrev pub frames_more : ℕ → History → History
frames_more k h = more h (replicate k Entry.frame)

-- ---- the envelope of a history: the single envelope, run over the entries alone

unfoldable pub step : Envelope → Entry → Envelope
step e (Entry.params p) = Envelopes.with_params p e
step e (Entry.timing t) = Envelopes.with_timing t e
step e (Entry.trigger x) = Envelopes.trigger x e
step e Entry.release = Envelopes.release e
step e Entry.reset = Envelopes.reset e
step e Entry.frame = Envelopes.frame e

unfoldable pub envelope_of : History → Envelope
envelope_of h = run step (Envelopes.idle h.fresh.params h.fresh.timing) h.entries

-- What a frame hands out after a history.
abbrev pub level_of : History → Float
level_of h = Envelopes.level (envelope_of h)

-- The settings and the timing of a history: the last ones entered.
abbrev pub latest_params : EnvelopeParams → Entry → EnvelopeParams
latest_params p (Entry.params q) = q
latest_params p (Entry.timing t) = p
latest_params p (Entry.trigger x) = p
latest_params p Entry.release = p
latest_params p Entry.reset = p
latest_params p Entry.frame = p

abbrev pub latest_timing : Timing → Entry → Timing
latest_timing t (Entry.params q) = t
latest_timing t (Entry.timing u) = u
latest_timing t (Entry.trigger x) = t
latest_timing t Entry.release = t
latest_timing t Entry.reset = t
latest_timing t Entry.frame = t

unfoldable pub settings_of : History → EnvelopeParams
settings_of h = run latest_params h.fresh.params h.entries

unfoldable pub timing_of : History → Timing
timing_of h = run latest_timing h.fresh.timing h.entries

-- ---- each voice's history, read from the calls alone

-- What an accepted call makes of one voice's entries: it adds some at the end, or puts another voice's in their place.
pub data Effect : Type 0 where
  enter : List Entry → Effect
  copy : ℕ → Effect

-- An effect on the voice v alone, seen from the voice w.
abbrev pub only : ℕ → ℕ → Effect → Effect
only v w x = cond (eqb w v) x (enter [])

-- What a chord enters for the voice w: one trigger for each time that the list names w.
abbrev pub chord_entries : Trigger → List ℕ → ℕ → List Entry
chord_entries x vs w = flat_map (λ v. cond (eqb w v) (Entry.trigger x ∷ []) []) vs

-- The effect of an accepted call, after what is known, on the voice w. 'Settings for all enter each voice as a settings entry does.' A join throws
-- away v's entries so far and puts those of `from` in their place, which keeps them where v is `from`. A process enters its frames, a reading
-- nothing.
unfoldable pub effect : Known → Call → ℕ → Effect
effect k (Call.set_params v p) w = only v w (enter (Entry.params p ∷ []))
effect k (Call.set_all_params p) w = enter (Entry.params p ∷ [])
effect k (Call.set_timing t) w = enter (Entry.timing t ∷ [])
effect k (Call.trigger v x) w = only v w (enter (Entry.trigger x ∷ []))
effect k (Call.chord vs x) w = enter (chord_entries x vs w)
effect k (Call.release v) w = only v w (enter (Entry.release ∷ []))
effect k (Call.reset v) w = only v w (enter (Entry.reset ∷ []))
effect k (Call.join v from) w = only v w (copy from)
effect k (Call.process len) w = enter (replicate (len / stride_of k.voices) Entry.frame)
effect k (Call.ask q) w = enter []

abbrev pub after_effect : (ℕ → List Entry) → ℕ → Effect → List Entry
after_effect es w (enter new) = es w ++ new
after_effect es w (copy u) = es u

-- The histories of all voices: what the calls so far tell of the bank as a whole, the fresh settings and timing, and each voice's entries.
pub record Histories : Type 0 where
  pub known : Known
  pub fresh : Fresh
  pub entries : ℕ → List Entry

abbrev pub history : Histories → ℕ → History
history r v = record { fresh = r.fresh; entries = r.entries v }

abbrev pub extended : Histories → Call → Histories
extended r c = record { known = learned r.known c; fresh = r.fresh; entries = λ w. after_effect r.entries w (effect r.known c w) }

-- One call more: a refused one enters nothing.
unfoldable pub after_call : Histories → Call → Histories
after_call r c = if_accepted (refusal r.known c) (extended r c) r

unfoldable pub fresh_histories : Opening → Histories
fresh_histories o =
    let p = opened o in
    record { known = known_of p; fresh = record { params = p.params; timing = p.timing }; entries = λ w. [] }

unfoldable pub histories_of : Opening → List Call → Histories
histories_of o cs = run after_call (fresh_histories o) cs

-- The history of the voice v after a fresh call and these calls.
abbrev pub history_of : Opening → List Call → ℕ → History
history_of o cs v = history (histories_of o cs) v

-- The number that refuses a call after these, 0 if it is accepted.
abbrev pub refusal_after : Opening → List Call → Call → ℕ
refusal_after o cs c = refusal (histories_of o cs).known c

-- ---- the bank after a list, by the definitions that its functions' statements cite

unfoldable pub bank_after : Opening → List Call → Bank
bank_after o cs = run (λ b c. (Banks.answer b c).bank) (Banks.new o).bank cs

unfoldable pub replies_from : Bank → List Call → List Reply
replies_from b [] = []
replies_from b (c ∷ cs) = Replies.reply b c ∷ replies_from (Banks.answer b c).bank cs

abbrev pub envelope_at : Opening → List Call → ℕ → Envelope
envelope_at o cs v = Banks.envelope (bank_after o cs) v

abbrev pub stage_at : Opening → List Call → ℕ → Stage
stage_at o cs v = Envelopes.stage (envelope_at o cs v)

abbrev pub next_level : Opening → List Call → ℕ → Float
next_level o cs v = Envelopes.level (envelope_at o cs v)

abbrev pub voices_of : Opening → ℕ
voices_of o = (opened o).voices

-- The levels of a row.
abbrev pub stride : Opening → ℕ
stride o = stride_of (voices_of o)

-- A process of k frames.
abbrev pub block : Opening → ℕ → Call
block o k = Call.process (k * stride o)

-- What an output holds after a process that follows these calls, and level v of its row k.
abbrev pub written_after : Opening → List Call → List Float → List Float
written_after o cs out = Banks.written (bank_after o cs) out

abbrev pub level_at : Opening → List Call → List Float → ℕ → ℕ → Float
level_at o cs out k v = get_or (written_after o cs out) (k * stride o + v) nan

-- ---- what the histories say that a call answers

-- The rows k, k + 1, .. of m frames, where row k is handed out after k frames more.
abbrev pub expected_rows : Histories → ℕ → ℕ → List Float
expected_rows r k zero = []
expected_rows r k (suc m) = Banks.row r.known.voices (λ v. level_of (frames_more k (history r v))) ++ expected_rows r (suc k) m

-- The refusal's number, or what the envelopes of the histories up to the call answer.
unfoldable pub expected_reply : Histories → Call → Reply
expected_reply r c = Replies.reply_from r.known (λ v. envelope_of (history r v)) (λ m. expected_rows r 0 m) c

unfoldable pub expected_replies : Histories → List Call → List Reply
expected_replies r [] = []
expected_replies r (c ∷ cs) = expected_reply r c ∷ expected_replies (after_call r c) cs

-- ---- the claim

-- A process that follows these calls, with any output lent to it, whole frames or not.
pub record Drawn (o : Opening) (cs : List Call) (out : List Float) : Type 0 where
  -- The output keeps its length; an accepted one is rows and nothing past them.
  pub extent : length (written_after o cs out) ≡ length out
  pub whole : refusal_after o cs (Call.process (length out)) ≡ 0 → length out / stride o * stride o ≡ length out
  -- 'Level v of row k, from 0, is handed out after voice v's history before that call and k frames more.'
  pub level :
      refusal_after o cs (Call.process (length out)) ≡ 0 → (k v : ℕ) → k < length out / stride o → v < voices_of o
      → level_at o cs out k v ≡ level_of (frames_more k (history_of o cs v))
  -- 'Spare lanes +0.'
  pub spare :
      refusal_after o cs (Call.process (length out)) ≡ 0 → (k v : ℕ) → k < length out / stride o → voices_of o ≤ v → v < stride o
      → level_at o cs out k v ≡ Constants.zero
  -- 'No level written.'
  pub refused : refusal_after o cs (Call.process (length out)) ≢ 0 → written_after o cs out ≡ out

-- Lead of an envelope: of the range that document 01 leaves it, the true number.
pub record LeadExact (e : Envelope) : Type 0 where
  -- Were only frames to follow, Sustain comes after so many, and not before.
  pub then : is_before_sustain (Envelopes.stage e) ≡ true → Envelopes.stage (Envelopes.frames (Envelopes.lead e) e) ≡ Sustain
  pub before : is_before_sustain (Envelopes.stage e) ≡ true → (k : ℕ) → k < Envelopes.lead e → Envelopes.stage (Envelopes.frames k e) ≢ Sustain
  -- In Idle, Sustain and Release.
  pub none : is_before_sustain (Envelopes.stage e) ≡ false → Envelopes.lead e ≡ 0

-- One list: any fresh call, accepted or refused, and any calls after it, in any order, with any numbers and output lengths.
pub record OneList (o : Opening) (cs : List Call) : Type 0 where
  -- The fresh call's own number, and the voices that it opens.
  pub opening : (Banks.new o).refusal ≡ opening_refusal o
  pub voices : Banks.size (bank_after o cs) ≡ voices_of o
  -- Each voice is in the state of its history's envelope: settings, timing, stage with its plan, segment.
  pub envelope : (v : ℕ) → v < voices_of o → envelope_at o cs v ≡ envelope_of (history_of o cs v)
  -- So its stage and its next level are that envelope's.
  pub stage : (v : ℕ) → v < voices_of o → stage_at o cs v ≡ Envelopes.stage (envelope_of (history_of o cs v))
  pub level : (v : ℕ) → v < voices_of o → next_level o cs v ≡ level_of (history_of o cs v)
  -- Each call, wherever it stands, is refused by document 01's number, or answers what the envelopes of the histories up to it say.
  pub replies : replies_from (Banks.new o).bank cs ≡ expected_replies (fresh_histories o) cs
  -- 'Lead answers as allowed above for that envelope.'
  pub lead : (v : ℕ) → v < voices_of o → LeadExact (envelope_of (history_of o cs v))
  -- The number beside the bank that a call returns is the same one, read from the calls before it.
  pub number :
      (pre post : List Call) (c : Call) → cs ≡ pre ++ c ∷ post → (Banks.answer (bank_after o pre) c).refusal ≡ refusal_after o pre c
  -- A refused call, wherever it stands, leaves the bank as it was and enters nothing.
  pub refused :
      (pre post : List Call) (c : Call) → cs ≡ pre ++ c ∷ post → refusal_after o pre c ≢ 0
      → (bank_after o (pre ++ c ∷ []) ≡ bank_after o pre) × (histories_of o (pre ++ c ∷ []) ≡ histories_of o pre)
  -- Each process, wherever it stands, writes the levels of the histories before it.
  pub drawn : (pre post : List Call) (out : List Float) → cs ≡ pre ++ Call.process (length out) ∷ post → Drawn o pre out

-- Two voices, of two lists or of one, and a moment in each: the end of a list. For a moment between two frames of a block that is the list whose
-- block is cut there.
pub record TwoLists (o₁ o₂ : Opening) (cs₁ cs₂ : List Call) (v w : ℕ) : Type 0 where
  -- With equal histories: the same state, stage and next level, whatever the other voices were sent and however frames were cut into blocks.
  pub envelope : history_of o₁ cs₁ v ≡ history_of o₂ cs₂ w → envelope_at o₁ cs₁ v ≡ envelope_at o₂ cs₂ w
  pub stage : history_of o₁ cs₁ v ≡ history_of o₂ cs₂ w → stage_at o₁ cs₁ v ≡ stage_at o₂ cs₂ w
  pub level : history_of o₁ cs₁ v ≡ history_of o₂ cs₂ w → next_level o₁ cs₁ v ≡ next_level o₂ cs₂ w
  -- While both go on alike: the same level in rows k₁ and k₂ of two blocks, if the histories up to those rows are equal.
  pub levels :
      (out₁ out₂ : List Float) → refusal_after o₁ cs₁ (Call.process (length out₁)) ≡ 0 → refusal_after o₂ cs₂ (Call.process (length out₂)) ≡ 0
      → (k₁ k₂ : ℕ) → k₁ < length out₁ / stride o₁ → k₂ < length out₂ / stride o₂
      → frames_more k₁ (history_of o₁ cs₁ v) ≡ frames_more k₂ (history_of o₂ cs₂ w)
      → level_at o₁ cs₁ out₁ k₁ v ≡ level_at o₂ cs₂ out₂ k₂ w

-- A block of a + c frames anywhere in a list, and the same frames in two blocks: the same bank and histories, and the same replies from there on.
pub record Cut (o : Opening) (pre post : List Call) (a c : ℕ) : Type 0 where
  pub bank : bank_after o (pre ++ block o (a + c) ∷ post) ≡ bank_after o (pre ++ block o a ∷ block o c ∷ post)
  pub histories : histories_of o (pre ++ block o (a + c) ∷ post) ≡ histories_of o (pre ++ block o a ∷ block o c ∷ post)
  pub replies :
      replies_from (bank_after o (pre ++ block o (a + c) ∷ [])) post ≡ replies_from (bank_after o (pre ++ block o a ∷ block o c ∷ [])) post
  -- The one block writes what the two write, one after the other.
  pub written :
      (out₁ out₂ : List Float) → length out₁ ≡ a * stride o → length out₂ ≡ c * stride o
      → written_after o pre (out₁ ++ out₂) ≡ written_after o pre out₁ ++ written_after o (pre ++ block o a ∷ []) out₂

-- The single triggers of a chord, in the order of its list.
abbrev pub single_triggers : List ℕ → Trigger → List Call
single_triggers vs x = map (λ v. Call.trigger v x) vs

-- An accepted chord anywhere in a list, and its single triggers in its place: the same bank and histories, and the same replies from there on.
pub record ChordIsTriggers (o : Opening) (pre post : List Call) (vs : List ℕ) (x : Trigger) : Type 0 where
  pub bank : bank_after o (pre ++ Call.chord vs x ∷ post) ≡ bank_after o (pre ++ single_triggers vs x ++ post)
  pub histories : histories_of o (pre ++ Call.chord vs x ∷ post) ≡ histories_of o (pre ++ single_triggers vs x ++ post)
  pub replies : replies_from (bank_after o (pre ++ Call.chord vs x ∷ [])) post ≡ replies_from (bank_after o (pre ++ single_triggers vs x)) post

-- The place: the sample of its curve, from 0, that an attack begins with which follows a delay at this level.
unfoldable pub place : EnvelopeParams → Timing → Float → ℕ
place p t level = (join_attack p level (spec p Attack t level)).pos

-- The stage k frames after a note by these settings and timing, whose attack begins at a place: each stage lasts its counted samples, the attack
-- those less its place.
abbrev pub stage_after : EnvelopeParams → Timing → ℕ → ℕ → Stage
stage_after p t at k =
    scheduled
    (samples t p.delay p.unit)
    (samples t p.attack p.unit - at)
    (samples t p.hold p.unit)
    (samples t p.decay p.unit)
    k

-- The same by a history's settings and timing, after a trigger whose attack joins its curve at the level that the envelope restarts from.
abbrev pub note_stage : History → Trigger → ℕ → Stage
note_stage h x k = stage_after (settings_of h) (timing_of h) (place (settings_of h) (timing_of h) (note_level x (envelope_of h).voice)) k

-- A note after a history, and k frames more. 'Counted samples are of the stage's time by the history's settings and timing at the new note.'
pub record NoteLengths (h : History) (k : ℕ) : Type 0 where
  -- A trigger that starts the stages over from Delay.
  pub stage :
      (x : Trigger) → leaves_alone x (envelope_of h).voice ≡ false
      → Envelopes.stage (envelope_of (frames_more k (more h (Entry.trigger x ∷ []))))
      ≡ stage_after (settings_of h) (timing_of h) (place (settings_of h) (timing_of h) (note_level x (envelope_of h).voice)) k
  -- A new note: its attack begins at place 0.
  pub new_note :
      Envelopes.stage (envelope_of (frames_more k (more h (Entry.trigger New ∷ [])))) ≡ stage_after (settings_of h) (timing_of h) 0 k

-- A note of the voice v after these calls, in the bank.
pub record NoteInBank (o : Opening) (cs : List Call) (v k : ℕ) : Type 0 where
  -- A trigger that starts the stages over from Delay, followed by a block of k frames.
  pub note :
      (x : Trigger) → leaves_alone x (envelope_of (history_of o cs v)).voice ≡ false
      → stage_at o (cs ++ Call.trigger v x ∷ block o k ∷ []) v ≡ note_stage (history_of o cs v) x k
  -- And after any calls whose history is that note and k frames more: whatever the other voices are sent, and however the frames are cut.
  pub note_among :
      (x : Trigger) → leaves_alone x (envelope_of (history_of o cs v)).voice ≡ false
      → (later : List Call) → history_of o later v ≡ frames_more k (more (history_of o cs v) (Entry.trigger x ∷ []))
      → stage_at o later v ≡ note_stage (history_of o cs v) x k
  -- A new note, both ways: its attack begins at place 0.
  pub new_note :
      stage_at o (cs ++ Call.trigger v New ∷ block o k ∷ []) v ≡ stage_after (settings_of (history_of o cs v)) (timing_of (history_of o cs v)) 0 k
  pub among :
      (later : List Call) → history_of o later v ≡ frames_more k (more (history_of o cs v) (Entry.trigger New ∷ []))
      → stage_at o later v ≡ stage_after (settings_of (history_of o cs v)) (timing_of (history_of o cs v)) 0 k

-- Demand 3, whole: of every list, of every two voices, of every cut of a block, of every chord and its single triggers, of the note's lengths in a
-- history, and of those in a bank.
pub record Demand3 : Type 0 where
  pub one : (o : Opening) (cs : List Call) → OneList o cs
  pub two : (o₁ o₂ : Opening) (cs₁ cs₂ : List Call) (v w : ℕ) → v < voices_of o₁ → w < voices_of o₂ → TwoLists o₁ o₂ cs₁ cs₂ v w
  pub cut : (o : Opening) (pre post : List Call) (a c : ℕ) → Cut o pre post a c
  pub chord :
      (o : Opening) (pre post : List Call) (vs : List ℕ) (x : Trigger) → refusal_after o pre (Call.chord vs x) ≡ 0 → ChordIsTriggers o pre post vs x
  pub notes : (h : History) (k : ℕ) → NoteLengths h k
  pub played : (o : Opening) (cs : List Call) (v k : ℕ) → v < voices_of o → NoteInBank o cs v k
