-- The check of a list, record after record (`checked_from`). At most 64 voices, and an output that holds the frames so far (`HasRoom`): an invariant of
-- it, by cases on a record's tests (`judged-has_room`) and induction on the records (`from-has_room`). `Left` is the invariant of the code's loop: what is
-- left of the check, run from here, comes to what all of it comes to. A record that passes is past the one before it (`past`), so that a list has
-- fewer records than bytes, and one that is accepted was read to its last byte (`accepted-whole`).
use mathlib.Core.Path.{◌≡◌, refl, sym, ap, ◌∙◌, subst}
use mathlib.Core.Bool.{Bool, true, false, cond}
use mathlib.Core.List.{List}
use Prim.Native.Nat.{ℕ, zero, suc, ◌+◌, ◌*◌, ◌-◌, ◌/◌, ◌<◌, ◌≤◌}
use native.Mathlib.Omega.{arith}
use native.Mathlib.Nat.{le_trans, le-mul_of_pos_right}
use borrow.Author.Tests.{lt-ltb, le-ltb, ltb-true, ltb-false, ne_eqb, eq-eqb}
use lib.Dec.{ltb, eqb}
use lib.ListN.{length}
use Rattle.bank.specs.Calls.{if_accepted}
use Rattle.rows.specs.Strides.{stride_of}
use Rattle.events.specs.declared.Event.{Event}
use Rattle.events.specs.Format as Format
use Rattle.events.specs.Format.{Parsed}
use Rattle.events.proofs.Records.{read_next, read-refused}
use Rattle.memory.specs.Memory.{max_voices}
use Rattle.bank.proofs.Frames.{stride_holds}
use Rattle.checking.specs.declared.Passed.{Passed}
use Rattle.checking.specs.Checks.{Checked, so_far, start, refused_at, passed, judged, after_record, checked_from, checked}
use Rattle.bank.proofs.Accepted.{if_refused, if_accepted_lem}
use Rattle.checking.proofs.Judging.{own, judged-passed, passed_few}

-- The check's invariant: at most 64 voices, and an output that has room for the frames so far.
pub record HasRoom (room : ℕ) (c : Checked) : Type 0 where
  pub voices : c.known.voices ≤ max_voices
  pub levels : c.frames * stride_of c.known.voices ≤ room

pub has_room_start : (room : ℕ) → HasRoom room start
has_room_start room = record { voices = omega arith; levels = omega arith }

pub has_room-frames : (room : ℕ) (c : Checked) → HasRoom room c → c.frames ≤ room
has_room-frames room c H = le_trans (le-mul_of_pos_right c.frames (stride_holds c.known.voices).1) H.levels

has_room-refused : (room : ℕ) (c : Checked) (n : ℕ) → HasRoom room c → HasRoom room (refused_at n c)
has_room-refused room c n H = record { voices = H.voices; levels = H.levels }

module _ (room : ℕ) (c : Checked) (e : Event) (next : ℕ) (H : HasRoom room c) where
  abbrev p : Checked
  p = passed c e next

  room-left : p.known.voices ≤ max_voices → (t : Bool) → ltb room (p.frames * stride_of p.known.voices) ≡ t → HasRoom room (cond t (refused_at 11 c) p)
  room-left few true h = has_room-refused room c 11 H
  room-left few false h = record { voices = few; levels = ltb-false room _ h }

  judged-has_room : HasRoom room (judged room c e next)
  unfolding judged
  judged-has_room = go (own c e) refl
    where
      go : (n : ℕ) → own c e ≡ n → HasRoom room (if_accepted n (cond (ltb room (p.frames * stride_of p.known.voices)) (refused_at 11 c) p) (refused_at n c))
      go zero z = room-left (passed_few c e next H.voices z) (ltb room (p.frames * stride_of p.known.voices)) refl
      go (suc n) z = has_room-refused room c (suc n) H

pub after_record-has_room : (room : ℕ) (c : Checked) (r : Parsed) → HasRoom room c → HasRoom room (after_record room c r)
unfolding after_record
after_record-has_room room c (Parsed.Record e next) H = judged-has_room room c e next H
after_record-has_room room c (Parsed.Refused n) H = has_room-refused room c n H

-- ---- a record that passed

-- A record that is accepted: no number of its own, and room for its frames.
pub record Accepted (room : ℕ) (c : Checked) (e : Event) (next : ℕ) : Type 0 where
  pub own : own c e ≡ 0
  pub fits : (passed c e next).frames * stride_of (passed c e next).known.voices ≤ room
  pub is : judged room c e next ≡ passed c e next

pub judged-accepted : (room : ℕ) (c : Checked) (e : Event) (next : ℕ) → (judged room c e next).refusal ≡ 0 → Accepted room c e next
unfolding judged
judged-accepted room c e next z = go (own c e) refl (ltb room ((passed c e next).frames * stride_of (passed c e next).known.voices)) refl z
  where
    go : (n : ℕ) → own c e ≡ n → (t : Bool) → ltb room ((passed c e next).frames * stride_of (passed c e next).known.voices) ≡ t
        → (if_accepted n (cond t (refused_at 11 c) (passed c e next)) (refused_at n c)).refusal ≡ 0 → Accepted room c e next
    go zero p false q z =
        let h = ltb-false room _ q in
        record { own = p; fits = h; is = sym (judged-passed room c e next p h) }
    go zero p true q z = absurd (omega arith)
    go (suc n) p t q z = absurd (omega arith)

-- ---- the loop

module _ (l : List ℕ) (room : ℕ) (c : Checked) where
  pub stopped : (n : ℕ) → (c.refusal ≡ 0 → ⊥) → checked_from n l room c ≡ c
  stopped zero d = refl
  stopped (suc n) d = if_refused c.refusal _ c d

  pub ended : (n : ℕ) → length l ≤ c.at → checked_from n l room c ≡ c
  ended zero h = refl
  ended (suc n) h = ap (λ (t : Bool). if_accepted c.refusal (cond t (checked_from n l room (after_record room c (Format.read l c.at))) c) c) (le-ltb c.at (length l) h) ∙ same c.refusal
    where
      same : (n : ℕ) → if_accepted n c c ≡ c
      same zero = refl
      same (suc n) = refl

  pub one_more : (n : ℕ) → 0 < n → c.refusal ≡ 0 → c.at < length l
      → checked_from n l room c ≡ checked_from (n - 1) l room (after_record room c (Format.read l c.at))
  one_more zero p z h = absurd (omega arith)
  one_more (suc n) p z h =
      let e : n ≡ suc n - 1 = omega arith in
      if_accepted_lem c.refusal _ c z ∙ rw (lt-ltb c.at (length l) h) (ap (λ (n : ℕ). checked_from n l room (after_record room c (Format.read l c.at))) e)

-- A record that is accepted is past the one before it: a place where none can be read is refused.
past : (l : List ℕ) (room : ℕ) (c : Checked) (r : Parsed) → Format.read l c.at ≡ r → (after_record room c r).refusal ≡ 0
    → (c.at < (after_record room c r).at) × ((after_record room c r).at ≤ length l)
unfolding after_record
past l room c (Parsed.Refused m) e y = absurd (omega (arith, y, read-refused l c.at m e))
past l room c (Parsed.Record v next) e y =
    let k : (judged room c v next).at ≡ next = ap (λ (x : Checked). x.at) (judged-accepted room c v next y).is in
    let b = read_next l c.at v next e in
    (omega (arith, k, b), omega (arith, k, b))

-- The check from q on, with steps enough for the bytes left, comes to what the check from p on comes to.
pub record Left (l : List ℕ) (room : ℕ) (p q : Passed) : Type 0 where
  pub has_room : HasRoom room (so_far q)
  pub turns : ℕ
  pub enough : length l ≤ q.at + turns
  pub same : checked_from turns l room (so_far q) ≡ checked_from (length l) l room (so_far p)

pub left_all : (l : List ℕ) (room : ℕ) (p : Passed) → HasRoom room (so_far p) → Left l room p p
left_all l room p H = record { has_room = H; turns = length l; enough = omega arith; same = refl }

module _ (l : List ℕ) (room : ℕ) (p q : Passed) (L : Left l room p q) where
  abbrev next : Checked
  next = after_record room (so_far q) (Format.read l q.at)

  one_turn : q.at < length l → checked_from (L.turns - 1) l room next ≡ checked_from (length l) l room (so_far p)
  one_turn h = sym (one_more l room (so_far q) L.turns (omega (arith, h, L.enough)) refl h) ∙ L.same

  pub at-past : (q' : Passed) → so_far q' ≡ next → q.at < q'.at
  at-past q' e =
      let b = past l room (so_far q) (Format.read l q.at) refl (sym (ap (λ (c : Checked). c.refusal) e)) in
      omega (arith, b, ap (λ (c : Checked). c.at) e)

  pub left_one : (q' : Passed) → q.at < length l → so_far q' ≡ next → Left l room p q'
  left_one q' h e =
      record {
        has_room = subst (HasRoom room) (sym e) (after_record-has_room room (so_far q) (Format.read l q.at) L.has_room);
        turns = L.turns - 1;
        enough = omega (arith, h, L.enough, at-past q' e);
        same = ap (checked_from (L.turns - 1) l room) e ∙ one_turn h;
      }

  pub left_refused : (c : Checked) → q.at < length l → (c.refusal ≡ 0 → ⊥) → c ≡ next → c ≡ checked_from (length l) l room (so_far p)
  left_refused c h d e = sym (stopped l room c (L.turns - 1) d) ∙ ap (checked_from (L.turns - 1) l room) e ∙ one_turn h

  pub left_none : length l ≤ q.at → so_far q ≡ checked_from (length l) l room (so_far p)
  left_none h = sym (ended l room (so_far q) L.turns h) ∙ L.same

pub none : (l : List ℕ) (bytes : ℕ) → length l ≡ 0 → refused_at 9 start ≡ checked l bytes
unfolding checked
none l bytes z = rw (eq-eqb (length l) 0 z)

pub some : (l : List ℕ) (bytes : ℕ) → (length l ≡ 0 → ⊥) → checked_from (length l) l (bytes / 4) start ≡ checked l bytes
unfolding checked
some l bytes d = rw (ne_eqb (length l) 0 d)

-- ---- a list that passed

-- A refusal stays.
pub still : (n : ℕ) (l : List ℕ) (room : ℕ) (c : Checked) → (checked_from n l room c).refusal ≡ 0 → c.refusal ≡ 0
still zero l room c z = z
still (suc n) l room c z = go c.refusal refl z
  where
    go : (k : ℕ) → c.refusal ≡ k
        → (if_accepted k (cond (ltb c.at (length l)) (checked_from n l room (after_record room c (Format.read l c.at))) c) c).refusal ≡ 0 → c.refusal ≡ 0
    go zero e z = e
    go (suc k) e z = z

-- ---- the whole list

from-has_room : (n : ℕ) (l : List ℕ) (room : ℕ) (c : Checked) → HasRoom room c → HasRoom room (checked_from n l room c)
from-has_room zero l room c H = H
from-has_room (suc n) l room c H =
    go c.refusal (ltb c.at (length l)) (from-has_room n l room (after_record room c (Format.read l c.at)) (after_record-has_room room c (Format.read l c.at) H))
  where
    go : (k : ℕ) (t : Bool) {x : Checked} → HasRoom room x → HasRoom room (if_accepted k (cond t x c) c)
    go zero true K = K
    go zero false K = H
    go (suc k) t K = H

pub checked-has_room : (l : List ℕ) (bytes : ℕ) → HasRoom (bytes / 4) (checked l bytes)
unfolding checked
checked-has_room l bytes = go (eqb (length l) 0)
  where
    go : (t : Bool) → HasRoom (bytes / 4) (cond t (refused_at 9 start) (checked_from (length l) l (bytes / 4) start))
    go true = has_room-refused (bytes / 4) start 9 (has_room_start (bytes / 4))
    go false = from-has_room (length l) l (bytes / 4) start (has_room_start (bytes / 4))

-- ---- a list that is accepted was read to its last byte

pub next_check : (l : List ℕ) (room n : ℕ) (c : Checked) → (checked_from (suc n) l room c).refusal ≡ 0 → c.at < length l
    → checked_from (suc n) l room c ≡ checked_from n l room (after_record room c (Format.read l c.at))
next_check l room n c z q =
    if_accepted_lem c.refusal _ c (still (suc n) l room c z)
    ∙ ap (λ (t : Bool). cond t (checked_from n l room (after_record room c (Format.read l c.at))) c) (lt-ltb c.at (length l) q)

to_the_end : (n : ℕ) (l : List ℕ) (room : ℕ) (c : Checked) → length l ≤ c.at + n → c.at ≤ length l → (checked_from n l room c).refusal ≡ 0
    → (checked_from n l room c).at ≡ length l
to_the_end zero l room c h k z = omega arith
to_the_end (suc n) l room c h k z = go (λ x. to_the_end n l room x) (ltb c.at (length l)) refl
  where
    go : ((x : Checked) → length l ≤ x.at + n → x.at ≤ length l → (checked_from n l room x).refusal ≡ 0 → (checked_from n l room x).at ≡ length l)
        → (t : Bool) → ltb c.at (length l) ≡ t → (checked_from (suc n) l room c).at ≡ length l
    go ih false q =
        let e = ltb-false c.at (length l) q in
        ap (λ (x : Checked). x.at) (ended l room c (suc n) e) ∙ omega arith
    go ih true q =
        let x = after_record room c (Format.read l c.at) in
        let e = next_check l room n c z (ltb-true c.at (length l) q) in
        let y : (checked_from n l room x).refusal ≡ 0 = sym (ap (λ (w : Checked). w.refusal) e) ∙ z in
        let b = past l room c (Format.read l c.at) refl (still n l room x y) in
        ap (λ (w : Checked). w.at) e ∙ ih x (omega (arith, h, b.0)) b.1 y

-- An empty list is refused.
pub refused_none : (l : List ℕ) (bytes : ℕ) → (checked l bytes).refusal ≡ 0 → length l ≡ 0 → ⊥
refused_none l bytes z n =
    let e : ◌≡◌ {A = ℕ} 9 0 = ap (λ (c : Checked). c.refusal) (none l bytes n) ∙ z in
    absurd (omega (arith, e))

pub accepted-whole : (l : List ℕ) (bytes : ℕ) → (checked l bytes).refusal ≡ 0 → (checked l bytes).at ≡ length l
accepted-whole l bytes z =
    let there : length l ≡ 0 → ⊥ = refused_none l bytes z in
    let e = some l bytes there in
    sym (ap (λ (c : Checked). c.at) e) ∙ to_the_end (length l) l (bytes / 4) start (omega arith) (omega arith) (ap (λ (c : Checked). c.refusal) e ∙ z)
