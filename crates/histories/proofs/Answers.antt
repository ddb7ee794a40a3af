-- A bank that `Simulates` relates to the histories of its voices replies to each call as they say: a refusal by the same number, a reading of the same
-- envelope, a process with the rows of the envelopes' levels (`rows-expected`, by induction on the rows). By cases on the call; of a list of calls by
-- induction, since each call keeps the relation (`call-simulates`).
use mathlib.Core.Path.{◌≡◌, refl, ap, ap₂, ◌∙◌, subst}
use mathlib.Core.Bool.{Bool, true, false, cond}
use mathlib.Core.List.{List, [], ◌∷◌, ◌++◌}
use Prim.Native.Nat.{ℕ, zero, suc, ◌/◌, ◌<◌}
use borrow.Author.Tests.{ltb-true}
use lib.Dec.{ltb}
use lib.Ieee.{Float}
use Rattle.numbers.specs.Constants as Constants
use Rattle.curve.specs.Segments as Segments
use Rattle.envelope.specs.declared.envelopes.Envelope.{Envelope}
use Rattle.envelope.specs.Envelopes as Envelopes
use Rattle.bank.specs.declared.known.Known.{Known}
use Rattle.bank.specs.Calls.{Query, Call, if_accepted, query_refusal, refusal}
use Rattle.rows.specs.Strides.{stride_of}
use Rattle.bank.specs.Banks.{Bank, voice, size, known, envelope, frames, row, rows, answer}
use Rattle.bank.specs.Replies.{Reply, query_reply, accepted_reply, reply}
use Rattle.filled.proofs.Tables.{tabulate_ext}
use Rattle.bank.proofs.Frames.{frames-last}
use Rattle.bank.proofs.Accepted.{voice_there}
use Rattle.histories.specs.Demand.{envelope_of, level_of, Histories, history, after_call, replies_from, expected_rows, expected_reply, expected_replies}
use Rattle.histories.proofs.Simulation.{Simulates, call-simulates, later}

-- A row reads the levels of its voices only.
row_ext : (n : ℕ) (f g : ℕ → Float) → ((v : ℕ) → v < n → f v ≡ g v) → row n f ≡ row n g
row_ext n f g h = tabulate_ext (stride_of n) _ _ (λ v i. go v (ltb v n) refl)
  where
    go : (v : ℕ) (t : Bool) → ltb v n ≡ t → cond t (f v) Constants.zero ≡ cond t (g v) Constants.zero
    go v true e = h v (ltb-true v n e)
    go v false e = refl

row-expected : (b : Bank) (r : Histories) → Simulates b r
    → row (size b) (λ v. Segments.level (voice b v).seg) ≡ row r.known.voices (λ v. level_of (history r v))
row-expected b r s =
    subst (λ (k : Known). row (size b) (λ v. Segments.level (voice b v).seg) ≡ row k.voices (λ v. level_of (history r v))) s.knows
    (row_ext (size b) _ _ (λ v h. ap Envelopes.level (s.at v h)))

rows-expected : (m k : ℕ) (b : Bank) (r : Histories) → Simulates b r → rows m (frames k b) ≡ expected_rows r k m
rows-expected zero k b r s = refl
rows-expected (suc m) k b r s =
    ap₂ (λ (x y : List Float). x ++ y) (row-expected _ _ (later k b r s)) (ap (rows m) (frames-last k b) ∙ rows-expected m (suc k) b r s)

module _ (b : Bank) (r : Histories) (s : Simulates b r) where
  query_reply-expected : (q : Query) → query_refusal (known b) q ≡ 0 → query_reply (known b) (envelope b) q ≡ query_reply (known b) (λ v. envelope_of (history r v)) q
  unfolding query_reply query_refusal
  query_reply-expected (Query.params v) a = ap (λ (e : Envelope). Reply.params (Envelopes.params e)) (s.at v (voice_there (known b) v 0 a).0)
  query_reply-expected (Query.stage v) a = ap (λ (e : Envelope). Reply.stage (Envelopes.stage e)) (s.at v (voice_there (known b) v 0 a).0)
  query_reply-expected (Query.level v) a = ap (λ (e : Envelope). Reply.level (Envelopes.level e)) (s.at v (voice_there (known b) v 0 a).0)
  query_reply-expected (Query.is_idle v) a = ap (λ (e : Envelope). Reply.is_idle (Envelopes.is_idle e)) (s.at v (voice_there (known b) v 0 a).0)
  query_reply-expected (Query.tail v) a = ap (λ (e : Envelope). Reply.count (Envelopes.tail e)) (s.at v (voice_there (known b) v 0 a).0)
  query_reply-expected (Query.lead v) a = ap (λ (e : Envelope). Reply.count (Envelopes.lead e)) (s.at v (voice_there (known b) v 0 a).0)
  query_reply-expected Query.voices a = refl
  query_reply-expected Query.stride a = refl

  accepted_reply-expected : (c : Call) → refusal (known b) c ≡ 0
      → accepted_reply (known b) (envelope b) (λ m. rows m b) c ≡ accepted_reply (known b) (λ v. envelope_of (history r v)) (λ m. expected_rows r 0 m) c
  unfolding refusal
  accepted_reply-expected (Call.set_params v p) a = refl
  accepted_reply-expected (Call.set_all_params p) a = refl
  accepted_reply-expected (Call.set_timing t) a = refl
  accepted_reply-expected (Call.trigger v x) a = refl
  accepted_reply-expected (Call.chord vs x) a = refl
  accepted_reply-expected (Call.release v) a = refl
  accepted_reply-expected (Call.reset v) a = refl
  accepted_reply-expected (Call.join v u) a = refl
  accepted_reply-expected (Call.process len) a = ap Reply.wrote (rows-expected (len / stride_of (size b)) 0 b r s)
  accepted_reply-expected (Call.ask q) a = query_reply-expected q a

  reply-expected : (c : Call) → reply b c ≡ expected_reply r c
  unfolding reply expected_reply
  reply-expected c = go (refusal (known b) c) refl ∙ ap said s.knows
    where
      expected_answer : Known → Reply
      expected_answer k = accepted_reply k (λ v. envelope_of (history r v)) (λ m. expected_rows r 0 m) c

      said : Known → Reply
      said k = if_accepted (refusal k c) (expected_answer k) (Reply.refused (refusal k c))

      go : (n : ℕ) → refusal (known b) c ≡ n
          → if_accepted n (accepted_reply (known b) (envelope b) (λ m. rows m b) c) (Reply.refused (refusal (known b) c))
          ≡ if_accepted n (expected_answer (known b)) (Reply.refused (refusal (known b) c))
      go zero e = accepted_reply-expected c e
      go (suc n) e = refl

pub replies-expected : (b : Bank) (r : Histories) → Simulates b r → (cs : List Call) → replies_from b cs ≡ expected_replies r cs
unfolding replies_from expected_replies
replies-expected b r s [] = refl
replies-expected b r s (c ∷ cs) =
    ap₂ {C = List Reply} (λ (x : Reply) (xs : List Reply). x ∷ xs) (reply-expected b r s c)
    (replies-expected (answer b c).bank (after_call r c) (call-simulates b r s c) cs)
