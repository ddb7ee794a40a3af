-- What `worfelli_list_info` says of a list is enough to make room for it: an output of n bytes plays it if and only if it holds its frames, and then
-- as many as were said. By induction over the records: the levels so far never fall, so that an output that holds the last number holds each before it.
use mathlib.Core.Path.{◌≡◌, refl, sym, ap, ◌∙◌}
use mathlib.Core.Bool.{Bool, true, false}
use mathlib.Core.List.{List}
use Prim.Native.Nat.{ℕ, zero, suc, ◌+◌, ◌*◌, ◌-◌, ◌/◌, ◌^◌, ◌<◌, ◌≤◌}
use native.Mathlib.Omega.{arith}
use native.Mathlib.Nat.{add-mul, le_trans}
use borrow.Author.Tests.{eqb-true, ltb-true, ltb-false}
use lib.Dec.{ltb}
use lib.ListN.{length}
use Rattle.rows.specs.Strides.{stride_of}
use Rattle.events.specs.declared.Event.{Event}
use Rattle.events.specs.Format as Format
use Rattle.events.specs.Format.{Parsed}
use Rattle.events.proofs.Records.{read_first, read_next, read-refused}
use Rattle.checking.specs.Actions.{Action, opens, calls, action, known_after, frames_of}
use Rattle.checking.specs.Checks.{Checked, start, passed, judged, after_record, checked_from, checked}
use Rattle.checking.proofs.Judging.{judged-passed}
use Rattle.checking.proofs.Passing.{some, refused_none, still, ended, one_more, next_check, judged-accepted, checked-has_room}
use Rattle.player.proofs.Doing.{is_open, open_action}
use Rattle.worfelli.specs.Lists.{info}

-- The levels of the frames so far.
abbrev levels : Checked → ℕ
levels c = c.frames * stride_of c.known.voices

-- No frames come before the open.
abbrev Begun : Checked → Type 0
Begun c = c.at ≡ 0 → c.frames ≡ 0

-- Only an open changes the number of voices, and it is the first record.
levels_grow : (c : Checked) (e : Event) (next : ℕ) (d : Action) → (is_open d ≡ true → c.frames ≡ 0)
    → c.frames * stride_of c.known.voices ≤ (c.frames + frames_of e) * stride_of (known_after c.known d).voices
unfolding known_after
levels_grow c e next (opens o) h =
    let z = h refl in
    let k = ap (λ (n : ℕ). n * stride_of c.known.voices) z in
    omega (arith, k)
levels_grow c e next (calls x) h = omega (arith, add-mul c.frames (frames_of e) (stride_of c.known.voices))

module _ (l : List ℕ) (c : Checked) (e : Event) (next : ℕ) (q : Format.read l c.at ≡ Parsed.Record e next) where
  levels-grow : Begun c → levels c ≤ levels (passed c e next)
  levels-grow b =
      levels_grow c e next (action c.known e) (λ t. b (eqb-true c.at 0 (sym (read_first l c.at e next q) ∙ sym (open_action c.known e) ∙ t)))

-- ---- record after record

-- The same in an output of r levels, if they are as many as an output of m levels was checked for.
record Fits (l : List ℕ) (n m r : ℕ) (c : Checked) : Type 0 where
  grow : levels c ≤ levels (checked_from n l m c)
  same : levels (checked_from n l m c) ≤ r → checked_from n l r c ≡ checked_from n l m c

module _ (l : List ℕ) (n m r : ℕ) (ih : (c : Checked) → Begun c → (checked_from n l m c).refusal ≡ 0 → Fits l n m r c)
    (c : Checked) (b : Begun c) (z : (checked_from (suc n) l m c).refusal ≡ 0) where
  go_on : c.at < length l → checked_from (suc n) l r c ≡ checked_from n l r (after_record r c (Format.read l c.at))
  go_on h =
      let e : suc n - 1 ≡ n = omega arith in
      one_more l r c (suc n) (omega arith) (still (suc n) l m c z) h ∙ ap (λ (k : ℕ). checked_from k l r (after_record r c (Format.read l c.at))) e

  at_end : length l ≤ c.at → Fits l (suc n) m r c
  at_end h =
      let e = ended l m c (suc n) h in
      record { grow = omega (arith, ap levels e); same = λ k. ended l r c (suc n) h ∙ sym e }

  on_record : c.at < length l → (x : Parsed) → Format.read l c.at ≡ x → Fits l (suc n) m r c
  unfolding after_record
  on_record h (Parsed.Refused k) q =
      let s = next_check l m n c z h ∙ ap (λ (x : Parsed). checked_from n l m (after_record m c x)) q in
      let y = still n l m _ (sym (ap (λ (x : Checked). x.refusal) s) ∙ z) in
      absurd (omega (arith, y, read-refused l c.at k q))
  on_record h (Parsed.Record e next) q =
      let p = passed c e next in
      let s = next_check l m n c z h ∙ ap (λ (x : Parsed). checked_from n l m (after_record m c x)) q in
      let y : (checked_from n l m (judged m c e next)).refusal ≡ 0 = sym (ap (λ (x : Checked). x.refusal) s) ∙ z in
      let A = judged-accepted m c e next (still n l m _ y) in
      let t : checked_from (suc n) l m c ≡ checked_from n l m p = s ∙ ap (λ (x : Checked). checked_from n l m x) A.is in
      let later : Begun p = λ w. absurd (omega (arith, w, read_next l c.at e next q)) in
      let F = ih p later (sym (ap (λ (x : Checked). x.refusal) t) ∙ z) in
      let g = levels-grow l c e next q b in
      record {
        grow = omega (arith, g, F.grow, ap levels t);
        same = λ k.
            let u : levels p ≤ r = omega (arith, F.grow, ap levels t, k) in
            let v : checked_from (suc n) l r c ≡ checked_from n l r p =
            go_on h
            ∙ ap (λ (x : Parsed). checked_from n l r (after_record r c x)) q
            ∙ ap (λ (x : Checked). checked_from n l r x) (sym (judged-passed r c e next A.own u)) in
            v ∙ F.same (omega (arith, ap levels t, k)) ∙ sym t;
      }

  fits_more : Fits l (suc n) m r c
  fits_more = go (ltb c.at (length l)) refl
    where
      go : (t : Bool) → ltb c.at (length l) ≡ t → Fits l (suc n) m r c
      go true h = on_record (ltb-true c.at (length l) h) (Format.read l c.at) refl
      go false h = at_end (ltb-false c.at (length l) h)

fits : (l : List ℕ) (n m r : ℕ) (c : Checked) → Begun c → (checked_from n l m c).refusal ≡ 0 → Fits l n m r c
fits l zero m r c b z = record { grow = omega arith; same = λ k. refl }
fits l (suc n) m r c b z = fits_more l n m r (λ c. fits l n m r c) c b z

-- ---- whole lists

-- A list that some output plays is the same to every output that holds its levels.
pub enough : (l : List ℕ) (m n : ℕ) → (checked l m).refusal ≡ 0 → levels (checked l m) ≤ n / 4 → checked l n ≡ checked l m
enough l m n z h =
    let d = refused_none l m z in
    let e = some l m d in
    let F = fits l (length l) (m / 4) (n / 4) start (λ w. refl) (ap (λ (c : Checked). c.refusal) e ∙ z) in
    sym (some l n d) ∙ F.same (omega (arith, ap levels e, h)) ∙ e

-- What is known of a list that is accepted, for outputs of n bytes.
pub record Playable (l : List ℕ) (n : ℕ) : Type 0 where
  -- An output that holds these frames plays them.
  pub plays : (info l).refusal ≡ 0 → levels (info l) ≤ n / 4 → checked l n ≡ info l
  -- A list that an output plays has as many voices and frames there, and the output holds them.
  pub agrees : (checked l n).refusal ≡ 0 → info l ≡ checked l n
  pub room : (checked l n).refusal ≡ 0 → levels (info l) ≤ n / 4

pub info-playable : (l : List ℕ) (n : ℕ) → n < 2 ^ 64 → Playable l n
info-playable l n small =
    let all : n / 4 ≤ (2 ^ 64 - 1) / 4 = omega arith in
    let same : (checked l n).refusal ≡ 0 → info l ≡ checked l n = λ z. enough l n (2 ^ 64 - 1) z (le_trans (checked-has_room l n).levels all) in
    record {
      plays = λ z h. enough l (2 ^ 64 - 1) n z h;
      agrees = same;
      room = λ z. omega (arith, ap levels (same z), (checked-has_room l n).levels);
    }
