-- `play`: by the answer of the check. A refusal's number is small, so that minus it is an i64; and so is the number of frames of an accepted list,
-- since an output holds fewer of them than bytes (`small`).
use mathlib.Core.Path.{◌≡◌, sym, ap, ◌∙◌}
use Prim.Native.Nat.{ℕ, ◌/◌, ◌^◌, ◌<◌}
use native.Mathlib.Omega.{arith}
use lib.IntN.{pos, neg_ℤ, ◌-ℤ◌}
use lib.ListN.{length}
use mir.Syntax.{w64}
use mir.Val.{to_z, of_z}
use Rattle.std.proofs.lemmas.Int.{ints}
use Rattle.settings.specs.Refusals.{number, number_of}
use Rattle.settings.proofs.Propagated.{number-some}
use Rattle.bank.specs.Calls.{if_accepted}
use Rattle.bank.proofs.Accepted.{if_refused, if_accepted_lem}
use Rattle.checking.specs.Checks.{Checked, checked}
use Rattle.checking.proofs.Passing.{has_room-frames, checked-has_room}
use Rattle.player.specs.Playing.{level_bytes, put, result, output}
use Rattle.player.proofs.play.Goals as goal
use Rattle.player.proofs.play.Goals.{After-check-checked}

small : (c : After-check-checked) → c.check-checked.result.passed.frames < 2 ^ 63
small c =
    let a = c.args in
    let l = length a.out.now in
    let H = has_room-frames (l / 4) _ (checked-has_room a.list.now l) in
    let e = ap (λ (x : Checked). x.frames) c.check-checked.ensures in
    omega (arith, e, H, c.well_formed.1.0)

pub returns-in-Err : goal.returns-in-Err
unfolding result output
returns-in-Err c =
    let a = c.args in
    let n = number c.in-Err.refusal in
    let k = checked a.list.now (length a.out.now) in
    let z : k.refusal ≡ n = sym (ap (λ (x : Checked). x.refusal) c.check-checked.ensures) ∙ ap number_of c.in-Err.is in
    let minus : to_z w64 (of_z w64 (pos 0 -ℤ to_z w64 c.number.result)) ≡ neg_ℤ (pos n) = omega (arith, ints) in
    let played = put (level_bytes a.list.now) a.out.now in
    let d = number-some c.in-Err.refusal in record {
      result = minus ∙ sym (ap (λ (n : ℕ). if_accepted n (pos k.frames) (neg_ℤ (pos n))) z ∙ if_refused n (pos k.frames) (neg_ℤ (pos n)) d);
      output = sym (ap (λ (n : ℕ). if_accepted n played a.out.now) z ∙ if_refused n played a.out.now d);
    }

pub overflow_cast-result-2 : goal.overflow_cast-result-2
overflow_cast-result-2 c = record { sfits = small (goal.at.overflow_cast-result-2 c).After-check-checked }

pub returns : goal.returns
unfolding result output
returns c =
    let a = c.args in
    let q = c.check-checked in
    let k = checked a.list.now (length a.out.now) in
    let z : k.refusal ≡ 0 = sym (ap (λ (x : Checked). x.refusal) q.ensures) ∙ ap number_of c.in_default.is in
    let frames : to_z w64 q.result.passed.frames ≡ pos k.frames =
    omega (arith, ints, small (goal.at.returns c).After-check-checked, ap (λ (x : Checked). x.frames) q.ensures) in
    let played = put (level_bytes a.list.now) a.out.now in record {
      result = frames ∙ sym (if_accepted_lem k.refusal (pos k.frames) (neg_ℤ (pos k.refusal)) z);
      output = c.play_records.ensures ∙ sym (if_accepted_lem k.refusal played a.out.now z);
    }
