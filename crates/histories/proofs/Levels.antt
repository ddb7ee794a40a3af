-- What a process writes after a list of calls (`drawn-levels`): level v of row k is that of voice v's history with k frames more, a spare lane's is
-- +0, and refused it writes nothing. An accepted one writes the bank's rows (`rows_at`), and after k frames each voice is the envelope of that longer
-- history (`later`).
use mathlib.Core.Path.{◌≡◌, refl, sym, ap, ◌∙◌, subst}
use mathlib.Core.Logic.{◌≢◌}
use mathlib.Core.Bool.{Bool, true, false, cond}
use mathlib.Core.List.{List}
use Prim.Native.Nat.{ℕ, zero, suc, ◌+◌, ◌*◌, ◌/◌, ◌%◌, ◌≤◌, ◌<◌}
use native.Mathlib.Omega.{arith}
use native.Mathlib.Nat.{div-add-mod'}
use borrow.Author.Tests.{lt-ltb, le-ltb, eqb-true}
use lib.Dec.{eqb}
use lib.ListN.{length, get_or}
use lib.Ieee.{Float, nan}
use Rattle.numbers.specs.Constants as Constants
use Rattle.envelope.specs.Envelopes as Envelopes
use Rattle.bank.specs.declared.known.Known.{Known}
use Rattle.bank.specs.Calls.{Opening, Call, refusal}
use Rattle.rows.specs.Strides.{stride_of}
use Rattle.bank.specs.Banks.{Bank, size, known, rows, written}
use Rattle.bank.proofs.Accepted.{if_refused}
use Rattle.bank.proofs.Frames.{frames-size, stride_holds, length-rows, rows_at}
use Rattle.histories.specs.Demand.{level_of, frames_more, Histories, history, histories_of, refusal_after, voices_of, bank_after, Drawn}
use Rattle.histories.proofs.Simulation.{Simulates, simulates, later, bank-voices}

module _ (b : Bank) (out : List Float) where
  refused-out : refusal (known b) (Call.process (length out)) ≢ 0 → written b out ≡ out
  unfolding written
  refused-out d = if_refused (refusal (known b) (Call.process (length out))) _ out d

  module _ (a : refusal (known b) (Call.process (length out)) ≡ 0) where
    whole-rows : length out / stride_of (size b) * stride_of (size b) ≡ length out
    unfolding refusal
    whole-rows = go (eqb (length out % stride_of (size b)) 0) refl a
      where
        go : (t : Bool) → eqb (length out % stride_of (size b)) 0 ≡ t → cond {A = ℕ} t 0 5 ≡ 0
            → length out / stride_of (size b) * stride_of (size b) ≡ length out
        go true e f =
            let z : length out % stride_of (size b) ≡ 0 = eqb-true _ _ e in
            omega (arith, div-add-mod' (length out) (stride_of (size b)))
        go false e f = absurd (omega arith)

    accepted-out : written b out ≡ rows (length out / stride_of (size b)) b
    unfolding written
    accepted-out = rw a

    -- The level of a voice is handed out k frames later, and a spare lane's is +0.
    level-expected : (r : Histories) → Simulates b r → (k v : ℕ) → k < length out / stride_of (size b) → v < size b
        → get_or (written b out) (k * stride_of (size b) + v) nan ≡ level_of (frames_more k (history r v))
    level-expected r s k v h l =
        let i : v < stride_of (size b) = omega (arith, stride_holds (size b)) in
        ap (λ (x : List Float). get_or x (k * stride_of (size b) + v) nan) accepted-out
        ∙ rows_at (length out / stride_of (size b)) b k v h i
        ∙ rw (lt-ltb v (size b) l) (ap Envelopes.level ((later k b r s).at v (omega (arith, frames-size k b))))

    level-spare : (k v : ℕ) → k < length out / stride_of (size b) → size b ≤ v → v < stride_of (size b)
        → get_or (written b out) (k * stride_of (size b) + v) nan ≡ Constants.zero
    level-spare k v h l i =
        ap (λ (x : List Float). get_or x (k * stride_of (size b) + v) nan) accepted-out
        ∙ rows_at (length out / stride_of (size b)) b k v h i
        ∙ rw (le-ltb v (size b) l)

  same-extent : length (written b out) ≡ length out
  same-extent = go (refusal (known b) (Call.process (length out))) refl
    where
      go : (n : ℕ) → refusal (known b) (Call.process (length out)) ≡ n → length (written b out) ≡ length out
      go zero e = ap length (accepted-out e) ∙ length-rows (length out / stride_of (size b)) b ∙ whole-rows e
      go (suc n) e = ap length (refused-out (λ z. absurd (omega arith)))

pub drawn-levels : (o : Opening) (cs : List Call) (out : List Float) → Drawn o cs out
drawn-levels o cs out =
    record {
      extent = same-extent b out;
      whole = λ a. subst (λ (n : ℕ). length out / stride_of n * stride_of n ≡ length out) counted (whole-rows b out (accepted a));
      level = λ a.
          subst (λ (n : ℕ). (k v : ℕ) → k < length out / stride_of n → v < n → lane n k v ≡ level_of (frames_more k (history r v))) counted
          (level-expected b out (accepted a) r s);
      spare = λ a.
          subst (λ (n : ℕ). (k v : ℕ) → k < length out / stride_of n → n ≤ v → v < stride_of n → lane n k v ≡ Constants.zero) counted
          (level-spare b out (accepted a));
      refused = λ d. refused-out b out (λ e. d (ap (λ (k : Known). refusal k (Call.process (length out))) (sym s.knows) ∙ e));
    }
  where
    b : Bank
    b = bank_after o cs

    r : Histories
    r = histories_of o cs

    s : Simulates b r
    s = simulates o cs

    -- Lane v of row k, were there n voices.
    lane : ℕ → ℕ → ℕ → Float
    lane n k v = get_or (written b out) (k * stride_of n + v) nan

    counted : size b ≡ voices_of o
    counted = bank-voices o cs

    accepted : refusal_after o cs (Call.process (length out)) ≡ 0 → refusal (known b) (Call.process (length out)) ≡ 0
    accepted a = ap (λ (k : Known). refusal k (Call.process (length out))) s.knows ∙ a
