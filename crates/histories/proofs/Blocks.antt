-- A block of a + c frames anywhere in a list of calls, and the same frames in two blocks: the same bank, histories, replies and levels (`cut-block`).
-- An accepted block is so many frames (`block-frames`, `block_after_call`), frames and their rows add up (`frames-add`, `rows-add`), and a list is run part
-- by part (`run-append`).
use mathlib.Core.Path.{◌≡◌, sym, ap, ap₂, ◌∙◌, subst, fun_ext}
use mathlib.Core.List.{List, [], ◌∷◌, ◌++◌, append_assoc}
use Prim.Native.Nat.{ℕ, ◌+◌, ◌*◌}
use native.Mathlib.Omega.{arith}
use lib.ListN.{length, length-append, replicate-append-replicate}
use lib.Ieee.{Float}
use Rattle.bank.specs.Calls.{Opening, Call}
use Rattle.rows.specs.Strides.{stride_of}
use Rattle.bank.specs.Banks.{Bank, size, known, frames, rows, answer, new, written}
use Rattle.bank.proofs.Frames.{frames-size, frames-add, rows-add}
use Rattle.bank.proofs.Accepted.{whole, block-frames}
use Rattle.histories.specs.Demand.{Entry, run, frames_more, effect, Histories, history, after_call, fresh_histories, histories_of}
use Rattle.histories.specs.Demand.{bank_after, replies_from, voices_of, stride, block, written_after, Cut}
use Rattle.histories.proofs.Lists.{run-append}
use Rattle.histories.proofs.Simulation.{histories_of-voices, bank-voices}

pub block-rows : (b : Bank) (n a : ℕ) (out : List Float) → size b ≡ n → length out ≡ a * stride_of n → written b out ≡ rows a b
unfolding written
block-rows b n a out e =
    subst (λ (n : ℕ). length out ≡ a * stride_of n → written b out ≡ rows a b) e (λ f. rw (f, (whole (known b) a).0, (whole (known b) a).1))

-- The histories after a block.
abbrev blocked : Histories → ℕ → Histories
blocked r a = record { known = r.known; fresh = r.fresh; entries = λ v. (frames_more a (history r v)).entries }

pub block_after_call : (r : Histories) (n a : ℕ) → r.known.voices ≡ n → after_call r (Call.process (a * stride_of n)) ≡ blocked r a
unfolding after_call effect
block_after_call r n a e =
    subst (λ (n : ℕ). after_call r (Call.process (a * stride_of n)) ≡ blocked r a) e (rw ((whole r.known a).0, (whole r.known a).1))

blocked-add : (r : Histories) (a c : ℕ) → blocked r (a + c) ≡ blocked (blocked r a) c
blocked-add r a c =
    ap {B = Histories} (λ (es : ℕ → List Entry). record { known = r.known; fresh = r.fresh; entries = es })
    (fun_ext (λ v.
    ap (λ (es : List Entry). r.entries v ++ es) (sym (replicate-append-replicate a c Entry.frame)) ∙ sym (append_assoc (r.entries v) _ _)))

-- ---- the cut

cut-bank : (o : Opening) (pre post : List Call) (a c : ℕ)
    → bank_after o (pre ++ block o (a + c) ∷ post) ≡ bank_after o (pre ++ block o a ∷ block o c ∷ post)
unfolding bank_after
cut-bank o pre post a c =
    let n = voices_of o in
    let b = bank_after o pre in
    let f : Bank → Call → Bank = λ b c. (answer b c).bank in
    let at : size b ≡ n = bank-voices o pre in
    run-append f (new o).bank pre (block o (a + c) ∷ post)
    ∙ ap (λ (x : Bank). run f x post)
    (block-frames b n (a + c) at ∙ frames-add a c b
    ∙ sym (block-frames (frames a b) n c (frames-size a b ∙ at)) ∙ sym (ap (λ (x : Bank). f x (block o c)) (block-frames b n a at)))
    ∙ sym (run-append f (new o).bank pre (block o a ∷ block o c ∷ post))

cut-histories : (o : Opening) (pre post : List Call) (a c : ℕ)
    → histories_of o (pre ++ block o (a + c) ∷ post) ≡ histories_of o (pre ++ block o a ∷ block o c ∷ post)
unfolding histories_of
cut-histories o pre post a c =
    let n = voices_of o in
    let r = histories_of o pre in
    let at : r.known.voices ≡ n = histories_of-voices o pre in
    run-append after_call (fresh_histories o) pre (block o (a + c) ∷ post)
    ∙ ap (λ (x : Histories). run after_call x post)
    (block_after_call r n (a + c) at ∙ blocked-add r a c
    ∙ sym (block_after_call (blocked r a) n c at) ∙ sym (ap (λ (x : Histories). after_call x (block o c)) (block_after_call r n a at)))
    ∙ sym (run-append after_call (fresh_histories o) pre (block o a ∷ block o c ∷ post))

-- The bank after the first block.
half : (o : Opening) (pre : List Call) (a : ℕ) → bank_after o (pre ++ block o a ∷ []) ≡ frames a (bank_after o pre)
unfolding bank_after
half o pre a =
    run-append (λ (b : Bank) (c : Call). (answer b c).bank) (new o).bank pre (block o a ∷ [])
    ∙ block-frames (bank_after o pre) (voices_of o) a (bank-voices o pre)

cut-written : (o : Opening) (pre : List Call) (a c : ℕ) (out₁ out₂ : List Float) → length out₁ ≡ a * stride o → length out₂ ≡ c * stride o
    → written_after o pre (out₁ ++ out₂) ≡ written_after o pre out₁ ++ written_after o (pre ++ block o a ∷ []) out₂
cut-written o pre a c out₁ out₂ e₁ e₂ =
    let n = voices_of o in
    let b = bank_after o pre in
    let at : size b ≡ n = bank-voices o pre in
    let e : length (out₁ ++ out₂) ≡ (a + c) * stride o = length-append out₁ out₂ ∙ omega arith in
    block-rows b n (a + c) (out₁ ++ out₂) at e ∙ rows-add a c b
    ∙ ap₂ (λ (x y : List Float). x ++ y) (sym (block-rows b n a out₁ at e₁))
    (sym (ap (λ (x : Bank). written x out₂) (half o pre a) ∙ block-rows (frames a b) n c out₂ (frames-size a b ∙ at) e₂))

pub cut-block : (o : Opening) (pre post : List Call) (a c : ℕ) → Cut o pre post a c
cut-block o pre post a c =
    record {
      bank = cut-bank o pre post a c;
      histories = cut-histories o pre post a c;
      replies = ap (λ (b : Bank). replies_from b post) (cut-bank o pre [] a c);
      written = cut-written o pre a c;
    }
