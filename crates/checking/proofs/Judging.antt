-- What one record makes of the check (`judged`): refused by its event's own number, refused by 11 since there is no room for its frames, or passed.
-- By cases on the two tests. The code's test of the room divides where the definition multiplies, since a product might overflow; `found_full` and
-- `found-room` show that it is the same test. A record that passes leaves at most 64 voices (`passed_few`).
use mathlib.Core.Path.{◌≡◌, refl, sym, ap, ap₂, ◌∙◌, subst}
use mathlib.Core.Bool.{Bool, true, false, cond}
use Prim.Native.Nat.{ℕ, ◌+◌, ◌*◌, ◌/◌, ◌<◌, ◌≤◌, min}
use native.Mathlib.Omega.{arith}
use native.Mathlib.Nat.{div-lt_iff_lt-mul, le-div_iff_mul-le}
use borrow.Author.Tests.{lt-ltb, le-ltb, ltb-false}
use lib.Dec.{ltb}
use Rattle.memory.specs.Memory.{max_voices}
use Rattle.bank.specs.declared.known.Known.{Known}
use Rattle.bank.specs.Calls.{opening_refusal}
use Rattle.rows.specs.Strides.{stride_of}
use Rattle.settings.specs.Refusals as Refusals
use Rattle.events.specs.declared.Event.{Event}
use Rattle.bank.proofs.Accepted.{if_refused}
use Rattle.bank.proofs.Frames.{stride_holds}
use Rattle.checking.specs.Actions.{Action, opens, calls, action, own_refusal, known_after, frames_of}
use Rattle.checking.specs.Checks.{Checked, refused_at, passed, judged}

abbrev pub own : Checked → Event → ℕ
own c e = own_refusal c.known (action c.known e)

module _ (room : ℕ) (c : Checked) (e : Event) (next : ℕ) where
  pub judged-own : (n : ℕ) → n ≡ own c e → (n ≡ 0 → ⊥) → refused_at n c ≡ judged room c e next
  unfolding judged
  judged-own n h d = rw (← h) (sym (if_refused n _ (refused_at n c) d))

  pub judged_full : own c e ≡ 0 → room < (passed c e next).frames * stride_of (passed c e next).known.voices → refused_at 11 c ≡ judged room c e next
  unfolding judged
  judged_full z h = rw (z, lt-ltb room _ h)

  pub judged-passed : own c e ≡ 0 → (passed c e next).frames * stride_of (passed c e next).known.voices ≤ room → passed c e next ≡ judged room c e next
  unfolding judged
  judged-passed z h = rw (z, le-ltb room _ h)

-- An open of more than 64 voices is refused; no other event changes their number.
after_few : (k : Known) (d : Action) → k.voices ≤ max_voices → own_refusal k d ≡ 0 → (known_after k d).voices ≤ max_voices
unfolding known_after own_refusal opening_refusal
after_few k (opens o) h z = go (ltb max_voices o.voices) refl z
  where
    go : (t : Bool) → ltb max_voices o.voices ≡ t → cond t 1 (Refusals.fresh o.params o.timing) ≡ 0 → o.voices ≤ max_voices
    go true e z = absurd (omega arith)
    go false e z = ltb-false max_voices o.voices e
after_few k (calls c) h z = h

pub passed_few : (c : Checked) (e : Event) (next : ℕ) → c.known.voices ≤ max_voices → own c e ≡ 0 → (passed c e next).known.voices ≤ max_voices
passed_few c e next h z = after_few c.known (action c.known e) h z

-- What the code finds is known after the event, its frames and the stride; and its test: a quotient, since a product might be too large.
module _ (room : ℕ) (c : Checked) (e : Event) (next : ℕ) (k : Known) (f s : ℕ) (few : c.known.voices ≤ max_voices) (z : own c e ≡ 0)
    (k-is : k ≡ (passed c e next).known) (f-is : f ≡ frames_of e) (s-is : s ≡ stride_of (min k.voices max_voices)) where
  stride-is : s ≡ stride_of (passed c e next).known.voices
  stride-is =
      let v : k.voices ≡ (passed c e next).known.voices = ap (λ (k : Known). k.voices) k-is in
      let m : min k.voices max_voices ≡ (passed c e next).known.voices = omega (arith, v, passed_few c e next few z) in
      s-is ∙ ap stride_of m

  stride-some : 0 < s
  stride-some = omega (arith, s-is, (stride_holds (min k.voices max_voices)).1)

  times : (c.frames + f) * s ≡ (passed c e next).frames * stride_of (passed c e next).known.voices
  times = ap₂ (λ (m n : ℕ). (c.frames + m) * n) f-is stride-is

  pub found_full : room / s < c.frames + f → refused_at 11 c ≡ judged room c e next
  found_full h = judged_full room c e next z (subst (λ (n : ℕ). room < n) times ((div-lt_iff_lt-mul stride-some).0 h))

  pub found-room : c.frames + f ≤ room / s → record { refusal = 0; at = next; known = k; frames = c.frames + f } ≡ judged room c e next
  found-room h =
      ap₂ {C = Checked} (λ (k : Known) (f : ℕ). record { refusal = 0; at = next; known = k; frames = c.frames + f }) k-is f-is
      ∙ judged-passed room c e next z (subst (λ (n : ℕ). n ≤ room) times ((le-div_iff_mul-le stride-some).0 h))
