-- The invariant of `play_records` (`Played`), record after record: what is written is the head of the list's levels, what is still to come is their
-- rest, and the output past it is as it was. The check of the rest passes from here, so that there is room for it. It holds at first (`begun`), a
-- record that is applied keeps it (`one_on`, the step lemma), and where no record is left the output holds the list's levels (`finished`).
use mathlib.Core.Path.{◌≡◌, refl, sym, ap, ap₂, ◌∙◌, subst}
use mathlib.Core.List.{List, [], ◌∷◌, ◌++◌, append_assoc, append-nil}
use Prim.Native.Nat.{ℕ, zero, suc, ◌+◌, ◌*◌, ◌-◌, ◌/◌, ◌<◌, ◌≤◌}
use native.Mathlib.Omega.{arith}
use native.Mathlib.Nat.{div-mul-le_self}
use borrow.Rule.Slice.PartMut.{mid_of, put_mid}
use lib.Ieee.{Float}
use lib.ListN.{length, take, drop, length-append, length-drop, replicate, length-replicate, take-append-drop}
use lib.Seq.{length-take-le, drop-drop, take_at, drop_at}
use Rattle.rows.specs.Strides.{stride_of}
use Rattle.rows.proofs.Lent.{rest-lent, rest_back}
use Rattle.bank.specs.declared.known.Known.{Known}
use Rattle.bank.specs.Calls as Calls
use Rattle.bank.specs.Calls.{Opening, if_accepted, opening_refusal, opening}
use Rattle.bank.specs.Banks.{Bank, size, known, bytes, new}
use Rattle.bank.proofs.Frames.{length-rows}
use Rattle.bank.proofs.Bytes.{bytes-append, length-bytes}
use Rattle.numbers.specs.Constants as Constants
use Rattle.timing.specs.Clock as Clock
use Rattle.settings.specs.Settings.{amp}
use Rattle.lane.specs.Planning as Planning
use Rattle.events.specs.declared.Event.{Event}
use Rattle.events.specs.Format as Format
use Rattle.events.specs.Format.{Parsed}
use Rattle.events.proofs.Records.{read_next}
use Rattle.checking.specs.Actions.{action, frames_of}
use Rattle.checking.specs.Checks.{Checked, start, judged, after_record, checked_from, checked}
use Rattle.checking.proofs.Passing.{one_more, some, refused_none, still, Accepted, judged-accepted}
use Rattle.player.specs.Playing.{if_record, events_from, unopened, after, action_levels, rendered, level_bytes, put}
use Rattle.player.proofs.Doing.{far, action_levels-rows, passed-far, levels-more}

pub record Played (l out₀ out : List ℕ) (b : Bank) (at to : ℕ) : Type 0 where
  -- As many records as may be left.
  pub records : ℕ
  pub enough : length l ≤ at + records
  -- The frames that were asked for so far.
  pub asked : ℕ
  pub first : at ≡ 0 → asked ≡ 0
  -- The rest of the list passes the check.
  pub passes : (checked_from records l (length out₀ / 4) (far at b asked)).refusal ≡ 0
  -- The output is written up to byte `to`.
  pub place : to ≡ 4 * (asked * stride_of (size b))
  pub there : to ≤ length out
  pub long : length out ≡ length out₀
  pub head : take to out ++ bytes (rendered b (events_from records l at)) ≡ level_bytes l
  pub tail : drop to out ≡ drop to out₀

-- ---- the start

none-opened : (n : ℕ) (o : Opening) → o.voices ≡ 0 → length (replicate (if_accepted n o o).voices (Planning.new (if_accepted n o o).params)) ≡ 0
none-opened zero o e = length-replicate _ _ ∙ e
none-opened (suc n) o e = length-replicate _ _ ∙ e

pub unopened-none : known unopened ≡ start.known
unfolding new Calls.opened
unopened-none =
    let o = opening 0 amp (Clock.new Constants.zero) in
    ap {B = Known} (λ (n : ℕ). record { voices = n }) (none-opened (opening_refusal o) o refl)

pub begun : (l out : List ℕ) (b : Bank) → b ≡ unopened → (checked l (length out)).refusal ≡ 0 → Played l out out b 0 0
begun l out b e z =
    record {
      records = length l;
      enough = omega arith;
      asked = 0;
      first = λ h. refl;
      passes =
          ap (λ (k : Known). (checked_from (length l) l (length out / 4) (record { refusal = 0; at = 0; known = k; frames = 0 })).refusal) (ap known e ∙ unopened-none)
          ∙ ap (λ (c : Checked). c.refusal) (some l (length out) (refused_none l (length out) z))
          ∙ z;
      place = omega arith;
      there = omega arith;
      long = refl;
      head = ap (λ (b : Bank). bytes (rendered b (events_from (length l) l 0))) e;
      tail = refl;
    }

-- ---- a record

pub events-more : (n : ℕ) (l : List ℕ) (at : ℕ) (e : Event) (next : ℕ) → 0 < n → Format.read l at ≡ Parsed.Record e next
    → events_from n l at ≡ e ∷ events_from (n - 1) l next
events-more zero l at e next h is = absurd (omega arith)
events-more (suc n) l at e next h is =
    let k : n ≡ suc n - 1 = omega arith in
    ap (λ (r : Parsed). if_record r (λ e next. e ∷ events_from n l next)) is ∙ ap (λ (n : ℕ). e ∷ events_from n l next) k

-- Bytes are put into an output from byte `to` on: what is before them is kept, and what is past them.
module _ (to : ℕ) (out bs : List ℕ) (h : to ≤ length out) where
  abbrev after-put : List ℕ
  after-put = take to out ++ put bs (drop to out)

  seam : length (take to out ++ bs) ≡ to + length bs
  seam = length-append (take to out) bs ∙ ap (λ (n : ℕ). n + length bs) (length-take-le to out h)

  parts : after-put ≡ (take to out ++ bs) ++ drop (length bs) (drop to out)
  parts = sym (append_assoc (take to out) bs (drop (length bs) (drop to out)))

  put-head : take (to + length bs) after-put ≡ take to out ++ bs
  put-head = ap (λ (l : List ℕ). take (to + length bs) l) parts ∙ take_at (take to out ++ bs) (drop (length bs) (drop to out)) (to + length bs) seam

  put-tail : drop (to + length bs) after-put ≡ drop (to + length bs) out
  put-tail =
      ap (λ (l : List ℕ). drop (to + length bs) l) parts
      ∙ drop_at (take to out ++ bs) (drop (length bs) (drop to out)) (to + length bs) seam
      ∙ drop-drop (length bs) to out

  put-long : to + length bs ≤ length out → length after-put ≡ length out
  put-long k =
      ap length parts
      ∙ length-append (take to out ++ bs) (drop (length bs) (drop to out))
      ∙ omega (arith, k, seam, length-drop (length bs) (drop to out), length-drop to out)

module _ (l out₀ out : List ℕ) (b : Bank) (at to : ℕ) (P : Played l out₀ out b at to) (e : Event) (next : ℕ)
    (is : Format.read l at ≡ Parsed.Record e next) where
  more : 0 < P.records
  more = omega (arith, read_next l at e next is, P.enough)

  abbrev room : ℕ
  room = length out₀ / 4

  abbrev c : Checked
  c = far at b P.asked

  judged_on : (checked_from (P.records - 1) l room (judged room c e next)).refusal ≡ 0
  unfolding after_record
  judged_on =
      let h = read_next l at e next is in
      sym (ap (λ (x : Checked). x.refusal) (one_more l room c P.records more refl (omega (arith, h)) ∙ ap (λ (r : Parsed). checked_from (P.records - 1) l room (after_record room c r)) is))
      ∙ P.passes

  accepted : Accepted room c e next
  accepted = judged-accepted room c e next (still (P.records - 1) l room (judged room c e next) judged_on)

  abbrev bs : List ℕ
  bs = bytes (action_levels b (action (known b) e))

  abbrev b₁ : Bank
  b₁ = after b (action (known b) e)

  many : length bs ≡ 4 * (frames_of e * stride_of (size b))
  many = length-bytes (action_levels b (action (known b) e)) ∙ ap (λ (xs : List Float). 4 * length xs) (action_levels-rows b e) ∙ ap (λ (n : ℕ). 4 * n) (length-rows (frames_of e) b)

  counted : (P.asked + frames_of e) * stride_of (size b₁) ≡ P.asked * stride_of (size b) + frames_of e * stride_of (size b)
  counted = levels-more room b l at P.asked e next is P.first accepted

  fits : (P.asked + frames_of e) * stride_of (size b₁) ≤ room
  fits = subst (λ (x : Checked). x.frames * stride_of x.known.voices ≤ room) (passed-far room b l at P.asked e next is P.first accepted) accepted.fits

  -- Its levels end within the output.
  pub inside : to + length bs ≤ length out
  inside = omega (arith, P.place, P.long, many, counted, fits, div-mul-le_self (length out₀) 4)

  -- There is room for its frames.
  pub frames-fit : frames_of e * stride_of (size b) ≤ length (mid_of to (length out - to) out) / 4
  frames-fit =
      let k : length (mid_of to (length out - to) out) ≡ length out - to = ap length (rest-lent to out) ∙ length-drop to out in
      subst (λ (n : ℕ). frames_of e * stride_of (size b) ≤ n / 4) (sym k) (omega (arith, inside, many))

  -- It has been applied, to the part of the output from `to` on.
  pub one_on : (b' : Bank) (p' : List ℕ) (to' : ℕ) → b' ≡ b₁ → p' ≡ put bs (mid_of to (length out - to) out) → to' ≡ length bs
      → Played l out₀ (put_mid to (length out - to) out p') b' next (to + to')
  one_on b' p' to' b-is p-is t-is =
      subst (λ (o : List ℕ). Played l out₀ o b' next (to + to')) (sym out-is)
      (subst (λ (n : ℕ). Played l out₀ new-out b' next (to + n)) (sym t-is)
      (subst (λ (b : Bank). Played l out₀ new-out b next (to + length bs)) (sym b-is) done))
    where
      new-out : List ℕ
      new-out = take to out ++ put bs (drop to out)

      out-is : put_mid to (length out - to) out p' ≡ new-out
      out-is = rest_back to out p' ∙ ap (λ (p : List ℕ). take to out ++ p) (p-is ∙ ap (put bs) (rest-lent to out))

      es : List Event
      es = events_from (P.records - 1) l next

      head-is : take (to + length bs) new-out ++ bytes (rendered b₁ es) ≡ level_bytes l
      head-is =
          ap (λ (l : List ℕ). l ++ bytes (rendered b₁ es)) (put-head to out bs P.there)
          ∙ append_assoc (take to out) bs (bytes (rendered b₁ es))
          ∙ ap (λ (l : List ℕ). take to out ++ l) (sym (bytes-append (action_levels b (action (known b) e)) (rendered b₁ es)) ∙ sym (ap (λ (es : List Event). bytes (rendered b es)) (events-more P.records l at e next more is)))
          ∙ P.head

      tail-is : drop (to + length bs) new-out ≡ drop (to + length bs) out₀
      tail-is =
          put-tail to out bs P.there
          ∙ sym (drop-drop (length bs) to out)
          ∙ ap (drop (length bs)) P.tail
          ∙ drop-drop (length bs) to out₀

      done : Played l out₀ new-out b₁ next (to + length bs)
      done =
          record {
            records = P.records - 1;
            enough = omega (arith, read_next l at e next is, P.enough);
            asked = P.asked + frames_of e;
            first = λ h. absurd (omega (arith, h, read_next l at e next is));
            passes =
                ap (λ (x : Checked). (checked_from (P.records - 1) l room x).refusal) (sym (passed-far room b l at P.asked e next is P.first accepted) ∙ sym accepted.is)
                ∙ judged_on;
            place = omega (arith, P.place, many, counted);
            there = omega (arith, inside, put-long to out bs P.there inside);
            long = put-long to out bs P.there inside ∙ P.long;
            head = head-is;
            tail = tail-is;
          }

-- ---- the end

-- Where no record can be read, none is left.
no_record : (l : List ℕ) (at n k : ℕ) → Format.read l at ≡ Parsed.Refused k → events_from n l at ≡ []
no_record l at zero k is = refl
no_record l at (suc n) k is = ap (λ (r : Parsed). if_record r (λ e next. e ∷ events_from n l next)) is

pub finished : (l out₀ out : List ℕ) (b : Bank) (at to : ℕ) → Played l out₀ out b at to → (k : ℕ) → Format.read l at ≡ Parsed.Refused k
    → out ≡ put (level_bytes l) out₀
finished l out₀ out b at to P k is =
    let e = no_record l at P.records k is in
    let h : take to out ≡ level_bytes l = sym (append-nil (take to out)) ∙ ap (λ (es : List Event). take to out ++ bytes (rendered b es)) (sym e) ∙ P.head in
    let n : length (level_bytes l) ≡ to = ap length (sym h) ∙ length-take-le to out P.there in
    sym (take-append-drop to out) ∙ ap₂ (λ (x y : List ℕ). x ++ y) h (P.tail ∙ ap (λ (i : ℕ). drop i out₀) (sym n))
