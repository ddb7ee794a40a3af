-- What a reading says. An accepted record is an open where it is the first, and nowhere else, and the next byte is past its head and within the list;
-- a refused one has a number from 6 on. By cases on the tests of the definition, in their order.
use mathlib.Core.Path.{◌≡◌, refl, sym}
use mathlib.Core.Bool.{Bool, true, false, cond, not, beq}
use mathlib.Core.List.{List}
use Prim.Native.Nat.{ℕ, ◌+◌, ◌≤◌}
use native.Mathlib.Omega.{arith}
use borrow.Author.Tests.{ltb-false, not-false}
use lib.Dec.{ltb, eqb}
use lib.ListN.{length}
use Rattle.std.proofs.Common.{Option, None, Some}
use Rattle.numbers.specs.Bytes.{number}
use Rattle.events.specs.declared.Event.{Event}
use Rattle.events.specs.declared.tags.Tag.{Tag}
use Rattle.events.specs.Format.{Parsed, byte, tag_of, body_length, named, if_named, if_known, meaning, ended, placed, is_open, read}

abbrev pub opens : Event → Bool
opens (Event.Open voices timing params) = true
opens (Event.SetParams voice params) = false
opens (Event.SetAllParams params) = false
opens (Event.SetTiming timing) = false
opens (Event.Trigger voice t) = false
opens (Event.Release voice) = false
opens (Event.Reset voice) = false
opens (Event.Join voice from) = false
opens (Event.Frames frames) = false

-- A record that a reading accepts is an open if and only if `first`, and the next byte is as P says; one that it refuses has a number.
abbrev Accepts : Bool → (ℕ → Type 0) → Parsed → Type 0
Accepts first P (Parsed.Record e next) = (opens e ≡ first) × P next
Accepts first P (Parsed.Refused n) = 6 ≤ n

by_test : (Q : Parsed → Type 0) (t : Bool) {x y : Parsed} → (t ≡ true → Q x) → (t ≡ false → Q y) → Q (cond t x y)
by_test Q true p q = p refl
by_test Q false p q = q refl

by_known : (Q : Parsed → Type 0) (o : Option Tag) {f : Tag → Parsed} → Q (Parsed.Refused 7) → ((tag : Tag) → Q (f tag)) → Q (if_known o f)
by_known Q None p q = p
by_known Q (Some tag) p q = q tag

module _ (first : Bool) (P : ℕ → Type 0) (l : List ℕ) (i next : ℕ) (p : P next) where
  if_named_lem : (t : Bool) (e : Event) → opens e ≡ first → Accepts first P (ended next (if_named t e))
  if_named_lem true e q = (q, p)
  if_named_lem false e q = omega arith

  meant : (tag : Tag) → is_open tag ≡ first → Accepts first P (ended next (meaning tag l i))
  unfolding meaning
  meant Tag.Open o = if_named_lem (named l (i + 25)) _ o
  meant Tag.SetParams o = if_named_lem (named l (i + 1)) _ o
  meant Tag.SetAllParams o = if_named_lem (named l i) _ o
  meant Tag.SetTiming o = (o, p)
  meant Tag.Trigger o = if_named_lem (ltb (byte l (i + 1)) 3) _ o
  meant Tag.Release o = (o, p)
  meant Tag.Reset o = (o, p)
  meant Tag.Join o = (o, p)
  meant Tag.Frames o = (o, p)

agree : (a b : Bool) → beq a b ≡ true → a ≡ b
agree true true e = refl
agree true false e = sym e
agree false true e = e
agree false false e = refl

-- Past the head and within the list.
abbrev Within : List ℕ → ℕ → ℕ → Type 0
Within l at next = (at + 3 ≤ next) × (next ≤ length l)

accepted : (l : List ℕ) (at : ℕ) → Accepts (eqb at 0) (Within l at) (read l at)
unfolding read
accepted l at =
    let n = number 2 l (at + 1) in
    let next = at + 3 + n in
    let Q : Parsed → Type 0 = Accepts (eqb at 0) (Within l at) in
    by_test Q (ltb (length l) (at + 3)) (λ z. omega arith) (λ z.
    by_test Q (ltb (length l) next) (λ z. omega arith) (λ e.
    by_known Q (tag_of (byte l at)) (omega arith) (λ tag.
    by_test Q (not (eqb n (body_length tag))) (λ z. omega arith) (λ z.
    by_test Q (not (placed tag at)) (λ z. omega arith) (λ d.
    let o = agree (is_open tag) (eqb at 0) (not-false (placed tag at) d) in
    meant (eqb at 0) (Within l at) l (at + 3) next (omega arith, ltb-false (length l) next e) tag o)))))

module _ (l : List ℕ) (at : ℕ) (e : Event) (next : ℕ) (h : read l at ≡ Parsed.Record e next) where
  right : Accepts (eqb at 0) (Within l at) (Parsed.Record e next)
  right = rw h at (accepted l at)

  pub read_first : opens e ≡ eqb at 0
  read_first = right.0

  pub read_next : (at + 3 ≤ next) × (next ≤ length l)
  read_next = right.1

pub read-refused : (l : List ℕ) (at n : ℕ) → read l at ≡ Parsed.Refused n → 6 ≤ n
read-refused l at n h = rw h at (accepted l at)
