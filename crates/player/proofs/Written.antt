-- An accepted list has as many levels as the frames that are returned (`frames-written`): the levels of the records to come and those of the frames
-- so far add up to the levels of all frames (`counted`, by induction on the records). And the place that `refused_at` tells is where the check ended
-- (`place-refused_at`).
use mathlib.Core.Path.{◌≡◌, refl, sym, ap, ◌∙◌}
use mathlib.Core.Bool.{Bool, true, false}
use mathlib.Core.List.{List, ◌∷◌}
use Prim.Native.Nat.{ℕ, zero, suc, ◌+◌, ◌*◌, ◌/◌}
use native.Mathlib.Omega.{arith}
use borrow.Author.Tests.{ltb-true, ltb-false}
use lib.Dec.{ltb}
use lib.ListN.{length, length-append}
use Rattle.rows.specs.Strides.{stride_of}
use Rattle.bank.specs.declared.known.Known.{Known}
use Rattle.bank.specs.Calls.{if_accepted}
use Rattle.bank.specs.Banks.{Bank, size, known}
use Rattle.bank.proofs.Frames.{length-rows}
use Rattle.events.specs.Format as Format
use Rattle.events.specs.Format.{Parsed}
use Rattle.events.proofs.Records.{read_next, read-refused}
use Rattle.checking.specs.Actions.{action, frames_of}
use Rattle.checking.specs.Checks.{Checked, start, judged, after_record, checked_from, checked}
use Rattle.checking.proofs.Passing.{some, refused_none, still, ended, next_check, judged-accepted, accepted-whole}
use Rattle.player.specs.Playing.{if_record, events_from, events, unopened, after, action_levels, rendered, refused_at}
use Rattle.player.proofs.Doing.{far, action_levels-rows, passed-far, levels-more}
use Rattle.player.proofs.Progress.{unopened-none}

-- ---- record after record

abbrev Counted : ℕ → List ℕ → ℕ → Bank → ℕ → ℕ → Type 0
Counted n l room b at asked =
    let c = checked_from n l room (far at b asked) in
    (at ≡ 0 → asked ≡ 0) → c.refusal ≡ 0 → length (rendered b (events_from n l at)) + asked * stride_of (size b) ≡ c.frames * stride_of c.known.voices

one_on : (n : ℕ) (l : List ℕ) (room : ℕ) (b : Bank) (at asked : ℕ) → ((x : Bank) (next more : ℕ) → Counted n l room x next more)
    → (r : Parsed) → Format.read l at ≡ r → (t : Bool) → ltb at (length l) ≡ t → Counted (suc n) l room b at asked
unfolding after_record
one_on n l room b at asked ih (Parsed.Refused m) q false h first z =
    let e = ended l room (far at b asked) (suc n) (ltb-false at (length l) h) in
    let x = ap (λ (r : Parsed). length (rendered b (if_record r (λ e next. e ∷ events_from n l next)))) q in
    let y = ap (λ (c : Checked). c.frames * stride_of c.known.voices) e in
    omega (arith, x, y)
one_on n l room b at asked ih (Parsed.Refused m) q true h first z =
    let e = next_check l room n (far at b asked) z (ltb-true at (length l) h) in
    let x = ap (λ (r : Parsed). (checked_from n l room (after_record room (far at b asked) r)).refusal) q in
    let y = still n l room _ (sym x ∙ sym (ap (λ (c : Checked). c.refusal) e) ∙ z) in
    absurd (omega (arith, y, read-refused l at m q))
one_on n l room b at asked ih (Parsed.Record e next) q false h first z =
    absurd (omega (arith, read_next l at e next q, ltb-false at (length l) h))
one_on n l room b at asked ih (Parsed.Record e next) q true h first z =
    let d = action (known b) e in
    let s = next_check l room n (far at b asked) z (ltb-true at (length l) h) ∙ ap (λ (r : Parsed). checked_from n l room (after_record room (far at b asked) r)) q in
    let y : (checked_from n l room (judged room (far at b asked) e next)).refusal ≡ 0 = sym (ap (λ (c : Checked). c.refusal) s) ∙ z in
    let A = judged-accepted room (far at b asked) e next (still n l room _ y) in
    let k : judged room (far at b asked) e next ≡ far next (after b d) (asked + frames_of e) = A.is ∙ passed-far room b l at asked e next q first A in
    let u = ap (λ (c : Checked). checked_from n l room c) k in
    let later : next ≡ 0 → asked + frames_of e ≡ 0 = λ w. absurd (omega (arith, w, read_next l at e next q)) in
    let v = ih (after b d) next (asked + frames_of e) later (sym (ap (λ (c : Checked). c.refusal) u) ∙ y) in
    let m = levels-more room b l at asked e next q first A in
    let w = ap (λ (c : Checked). c.frames * stride_of c.known.voices) (s ∙ u) in
    let x = ap (λ (r : Parsed). length (rendered b (if_record r (λ e next. e ∷ events_from n l next)))) q ∙ length-append (action_levels b d) (rendered (after b d) (events_from n l next)) in
    let g = ap length (action_levels-rows b e) ∙ length-rows (frames_of e) b in
    omega (arith, v, m, g, w, x)

counted : (n : ℕ) (l : List ℕ) (room : ℕ) (b : Bank) (at asked : ℕ) → Counted n l room b at asked
counted zero l room b at asked first z = omega arith
counted (suc n) l room b at asked first z = one_on n l room b at asked (λ x next more. counted n l room x next more) (Format.read l at) refl (ltb at (length l)) refl first z

-- The levels of an accepted list are as many frames as are returned.
pub frames-written : (l : List ℕ) (n : ℕ) → (checked l n).refusal ≡ 0
    → length (rendered unopened (events l)) ≡ (checked l n).frames * stride_of (checked l n).known.voices
frames-written l n z =
    let e = some l n (refused_none l n z) in
    let f : far 0 unopened 0 ≡ start = ap {B = Checked} (λ (k : Known). record { refusal = 0; at = 0; known = k; frames = 0 }) unopened-none in
    let k = ap (λ (c : Checked). checked_from (length l) l (n / 4) c) f ∙ e in
    let h = counted (length l) l (n / 4) unopened 0 0 (λ w. refl) (ap (λ (c : Checked). c.refusal) k ∙ z) in
    let g = ap (λ (c : Checked). c.frames * stride_of c.known.voices) k in
    omega (arith, h, g)

-- The check of an accepted list ends at the list's end.
pub place-refused_at : (l : List ℕ) (n : ℕ) → (checked l n).at ≡ refused_at l n
unfolding refused_at
place-refused_at l n = go (checked l n).refusal refl
  where
    go : (k : ℕ) → (checked l n).refusal ≡ k → (checked l n).at ≡ if_accepted k (length l) (checked l n).at
    go zero z = accepted-whole l n z
    go (suc k) z = refl
