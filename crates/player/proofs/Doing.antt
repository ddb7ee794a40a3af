-- What an event does: the levels that it hands out are the rows of its frames, and the check knows of the bank after it what the bank says itself. By
-- cases on the event, whose arms are the bank's own calls.
use mathlib.Core.Path.{◌≡◌, refl, sym, ap, ◌∙◌, subst}
use mathlib.Core.Bool.{Bool, true, false}
use mathlib.Core.List.{List, []}
use Prim.Native.Nat.{ℕ, zero, suc, ◌+◌, ◌*◌, ◌/◌, ◌≤◌}
use native.Mathlib.Omega.{arith}
use native.Mathlib.Nat.{add-mul, zero-mul}
use borrow.Author.Tests.{eqb-true, le-ltb}
use lib.Dec.{eqb}
use lib.Ieee.{Float}
use lib.ListN.{length, length-replicate}
use Rattle.lane.specs.Planning as Planning
use Rattle.memory.specs.declared.arrays.Arrays.{Arrays}
use Rattle.rows.specs.Strides.{stride_of}
use Rattle.bank.specs.declared.known.Known.{Known}
use Rattle.bank.specs.Calls.{Call, if_accepted, opened, refusal}
use Rattle.bank.specs.Banks.{Bank, bank_of, size, known, envelope, frames, rows, new, answer, bytes, bytes_refusal, after_bytes, written_bytes}
use Rattle.bank.specs.Replies.{Reply, accepted_reply, reply}
use Rattle.bank.proofs.Accepted.{whole, block-frames}
use Rattle.bank.proofs.Bytes.{length-bytes}
use Rattle.bank.proofs.Frames.{length-rows}
use Rattle.bank.proofs.Representation.{size_of}
use Rattle.histories.proofs.Kept.{kept}
use Rattle.events.specs.declared.Event.{Event}
use Rattle.events.specs.Format as Format
use Rattle.events.specs.Format.{Parsed}
use Rattle.events.proofs.Records as Records
use Rattle.events.proofs.Records.{read_first}
use Rattle.checking.specs.Actions.{Action, opens, calls, action, own_refusal, known_after, frames_of}
use Rattle.checking.specs.Checks.{Checked, passed}
use Rattle.checking.proofs.Passing.{Accepted}
use Rattle.player.specs.Playing.{after, levels, action_levels, put}

pub differ : true ≡ false → ⊥
differ e = subst (λ (t : Bool). T t) e tt
  where
    T : Bool → Type 0
    T true = Unit {0}
    T false = ⊥

-- ---- levels

no_levels : (b : Bank) (c : Call) → accepted_reply (known b) (envelope b) (λ n. rows n b) c ≡ Reply.done → levels (reply b c) ≡ []
unfolding levels reply
no_levels b c e = go (refusal (known b) c)
  where
    go : (n : ℕ) → levels (if_accepted n (accepted_reply (known b) (envelope b) (λ n. rows n b) c) (Reply.refused (refusal (known b) c))) ≡ []
    go zero = ap levels e
    go (suc n) = refl

process_levels-rows : (b : Bank) (n : ℕ) → levels (reply b (Call.process (n * stride_of (size b)))) ≡ rows n b
unfolding reply levels
process_levels-rows b n = rw ((whole (known b) n).0, (whole (known b) n).1)

pub action_levels-rows : (b : Bank) (e : Event) → action_levels b (action (known b) e) ≡ rows (frames_of e) b
unfolding action_levels action frames_of
action_levels-rows b (Event.Open n t p) = refl
action_levels-rows b (Event.SetParams v p) = no_levels b (Call.set_params v p) refl
action_levels-rows b (Event.SetAllParams p) = no_levels b (Call.set_all_params p) refl
action_levels-rows b (Event.SetTiming t) = no_levels b (Call.set_timing t) refl
action_levels-rows b (Event.Trigger v x) = no_levels b (Call.trigger v x) refl
action_levels-rows b (Event.Release v) = no_levels b (Call.release v) refl
action_levels-rows b (Event.Reset v) = no_levels b (Call.reset v) refl
action_levels-rows b (Event.Join v from) = no_levels b (Call.join v from) refl
action_levels-rows b (Event.Frames n) = process_levels-rows b n

-- ---- what is known

abbrev pub is_open : Action → Bool
is_open (opens o) = true
is_open (calls c) = false

pub open_action : (k : Known) (e : Event) → is_open (action k e) ≡ Records.opens e
unfolding action
open_action k (Event.Open n t p) = refl
open_action k (Event.SetParams v p) = refl
open_action k (Event.SetAllParams p) = refl
open_action k (Event.SetTiming t) = refl
open_action k (Event.Trigger v x) = refl
open_action k (Event.Release v) = refl
open_action k (Event.Reset v) = refl
open_action k (Event.Join v from) = refl
open_action k (Event.Frames n) = refl

open_quiet : (e : Event) → Records.opens e ≡ true → frames_of e ≡ 0
unfolding frames_of
open_quiet (Event.Open n t p) q = refl
open_quiet (Event.SetParams v p) q = refl
open_quiet (Event.SetAllParams p) q = refl
open_quiet (Event.SetTiming t) q = refl
open_quiet (Event.Trigger v x) q = refl
open_quiet (Event.Release v) q = refl
open_quiet (Event.Reset v) q = refl
open_quiet (Event.Join v from) q = refl
open_quiet (Event.Frames n) q = absurd (differ (sym q))

same_count : (k : Known) (d : Action) → is_open d ≡ false → (known_after k d).voices ≡ k.voices
unfolding known_after
same_count k (opens o) q = absurd (differ q)
same_count k (calls c) q = refl

pub known-after : (b : Bank) (d : Action) → own_refusal (known b) d ≡ 0 → known (after b d) ≡ known_after (known b) d
unfolding own_refusal known_after after new opened answer
known-after b (opens o) z = rw z (ap {B = Known} (λ (n : ℕ). record { voices = n }) (length-replicate o.voices (Planning.new o.params)))
known-after b (calls c) z = rw z (kept b c z).knows

-- ---- an accepted record

-- Where the check is, when it has passed the records up to byte `at`.
abbrev pub far : ℕ → Bank → ℕ → Checked
far at b asked = record { refusal = 0; at = at; known = known b; frames = asked }

module _ (room : ℕ) (b : Bank) (l : List ℕ) (at asked : ℕ) (e : Event) (next : ℕ) (is : Format.read l at ≡ Parsed.Record e next)
    (first : at ≡ 0 → asked ≡ 0) (A : Accepted room (far at b asked) e next) where
  abbrev b' : Bank
  b' = after b (action (known b) e)

  -- The check is where the bank is.
  pub passed-far : passed (far at b asked) e next ≡ far next b' (asked + frames_of e)
  passed-far =
      ap {B = Checked} (λ (k : Known). record { refusal = 0; at = next; known = k; frames = asked + frames_of e }) (sym (known-after b (action (known b) e) A.own))

  -- The levels so far, counted by the bank before the record and after it: the one that opens it is the first.
  pub levels-more : (asked + frames_of e) * stride_of (size b') ≡ asked * stride_of (size b) + frames_of e * stride_of (size b)
  levels-more = go (eqb at 0) refl
    where
      go : (t : Bool) → eqb at 0 ≡ t → (asked + frames_of e) * stride_of (size b') ≡ asked * stride_of (size b) + frames_of e * stride_of (size b)
      go true h =
          let a = first (eqb-true at 0 h) in
          let f = open_quiet e (read_first l at e next is ∙ h) in
          let z : asked + frames_of e ≡ 0 = omega (arith, a, f) in
          ap (λ (n : ℕ). n * stride_of (size b')) z ∙ zero-mul (stride_of (size b'))
          ∙ sym (omega (arith, ap (λ (n : ℕ). n * stride_of (size b)) a, ap (λ (n : ℕ). n * stride_of (size b)) f, zero-mul (stride_of (size b))))
      go false h =
          let n : size b' ≡ size b =
          ap (λ (k : Known). k.voices) (known-after b (action (known b) e) A.own)
          ∙ same_count (known b) (action (known b) e) (open_action (known b) e ∙ read_first l at e next is ∙ h)
          in
          ap (λ (v : ℕ). (asked + frames_of e) * stride_of v) n ∙ add-mul asked (frames_of e) (stride_of (size b))

-- ---- what is applied

module _ (b : Bank) (out : List ℕ) where
  -- An event that asks for no frames writes nothing.
  pub quiet_levels : (e : Event) → frames_of e ≡ 0 → out ≡ put (bytes (action_levels b (action (known b) e))) out
  quiet_levels e z = ap (λ (xs : List Float). put (bytes xs) out) (sym (action_levels-rows b e ∙ ap (λ (n : ℕ). rows n b) z))

  pub quiet_count : (e : Event) → frames_of e ≡ 0 → 0 ≡ length (bytes (action_levels b (action (known b) e)))
  quiet_count e z = ap (λ (xs : List Float). length (bytes xs)) (sym (action_levels-rows b e ∙ ap (λ (n : ℕ). rows n b) z))

  -- n frames, for which there is room.
  pub frames-drawn : (n : ℕ) (b' : Bank) (out' : List ℕ) → n * stride_of (size b) ≤ length out / 4 → b' ≡ after_bytes b n (length out) → out' ≡ written_bytes b n out
      → (b' ≡ frames n b) × (out' ≡ put (bytes (rows n b)) out)
  unfolding bytes_refusal after_bytes written_bytes
  frames-drawn n b' out' h p q =
      let e = le-ltb (length out / 4) (n * stride_of (size b)) h in
      (p ∙ rw e, q ∙ rw e)

-- They take four bytes a level.
pub bytes_drawn : (b : Bank) (n : ℕ) → n * (4 * stride_of (size b)) ≡ length (bytes (rows n b))
bytes_drawn b n =
    let k : n * (4 * stride_of (size b)) ≡ 4 * (n * stride_of (size b)) = omega arith in
    k ∙ sym (length-bytes (rows n b) ∙ ap (λ (m : ℕ). 4 * m) (length-rows n b))

pub frames_after : (b : Bank) (n : ℕ) → frames n b ≡ after b (action (known b) (Event.Frames n))
unfolding after action
frames_after b n = sym (block-frames b (size b) n refl)

-- A row has at most 64 lanes.
pub stride-small : (m : Arrays) → stride_of (size (bank_of m)) ≤ 64
stride-small m = omega (arith, size_of m)
