-- A reading of one voice replies what the bank's definition says: of a voice that there is, what is read of that voice in the arrays
-- (`reading_present`); of one that there is not, refusal 2 (`reading_missing`). By the test for the voice, and since the arrays' voice is the bank's.
use mathlib.Core.Path.{◌≡◌, sym, ap, ◌∙◌}
use Prim.Native.Nat.{ℕ, ◌≤◌, ◌<◌}
use native.Mathlib.Omega.{arith}
use borrow.Author.Tests.{lt-ltb, le-ltb}
use Rattle.std.specs.Prelude.{Result, Ok, Err}
use Rattle.std.specs.Result.{IsErrAnd}
use Rattle.settings.specs.declared.refusals.Refusal.{Refusal}
use Rattle.settings.specs.declared.refusals.Refusal.TheVariants.{NoSuchVoice}
use Rattle.settings.specs.Refusals.{number}
use Rattle.lane.specs.declared.lanes.Voice.{Voice}
use Rattle.envelope.specs.declared.envelopes.Envelope.{Envelope}
use Rattle.memory.specs.declared.arrays.Arrays.{Arrays}
use Rattle.memory.specs.Memory.{count_of, timing_at, voice_at}
use Rattle.bank.specs.Calls.{Call, Query, voice_refusal, refusal, query_refusal}
use Rattle.bank.specs.Banks.{bank_of, size, known, envelope}
use Rattle.bank.specs.Replies.{Reply, query_reply, reply, of_reading}
use Rattle.bank.proofs.Representation.{size_of, voice_of_lem}

-- Voice v of the arrays as a single envelope.
abbrev pub envelope_at : Arrays → ℕ → Envelope
envelope_at m v = record { voice = voice_at m v; timing = timing_at m.bends }

module _ (m : Arrays) (q : Query) (v : ℕ) (names : query_refusal (known (bank_of m)) q ≡ voice_refusal (known (bank_of m)) v 0) where
  -- read is what the query tells of that envelope.
  pub reading_present : (read : Envelope → Reply) → query_reply (known (bank_of m)) (envelope (bank_of m)) q ≡ read (envelope (bank_of m) v)
      → v < count_of m.codes → read (envelope_at m v) ≡ reply (bank_of m) (Call.ask q)
  unfolding reply refusal bank_of
  reading_present read e h =
      ap (λ (x : Voice). read (record { voice = x; timing = timing_at m.bends })) (sym (voice_of_lem m v h))
      ∙ sym e
      ∙ rw (names, lt-ltb v (size (bank_of m)) (omega (arith, h, size_of m)))

  -- The test for the voice found none.
  pub reading_missing : {A : Type 0} (f : A → Reply) (r : Result A Refusal) (e : Refusal) → IsErrAnd r (λ x. x ≡ e) → (e ≡ NoSuchVoice) × (count_of m.codes ≤ v)
      → of_reading f r ≡ reply (bank_of m) (Call.ask q)
  unfolding of_reading reply refusal
  reading_missing f (Ok x) e i h = absurd i
  reading_missing f (Err x) e i h =
      ap (λ (x : Refusal). Reply.refused (number x)) (i ∙ h.0) ∙ rw (names, le-ltb v (size (bank_of m)) (omega (arith, h.1, size_of m)))
