-- `Passed::record`: each return is a case of the definition, in its order: a record that cannot be read, an event that is refused by its own number
-- (`judged-own`), one without room for its frames (`found_full`), and one that passes (`found-room`).
use mathlib.Core.Path.{sym, ap, ◌∙◌}
use Prim.Native.Nat.{ℕ}
use native.Mathlib.Omega.{arith}
use Rattle.settings.proofs.Propagated.{number_of-propagated, number-some}
use Rattle.checking.specs.Checks.{so_far, refused_at, after_record}
use Rattle.checking.proofs.Judging.{judged-own, found_full, found-room}
use Rattle.checking.proofs.Passed.record.Goals as goal

pub returns-in_err-check_event : goal.returns-in_err-check_event
unfolding after_record
returns-in_err-check_event c =
    let a = c.args in
    let p = so_far a.self.now in
    let r = c.in_ok-event.field-0 in
    let e = c.in_err-check_event in
    ap (λ (n : ℕ). refused_at n p) (number_of-propagated _ _ c.from_residual-in_err-check_event.ensures.1)
    ∙ judged-own a.room p r.event r.next _ e.ensures (number-some e.field-0.0)
    ∙ ap (after_record a.room p) c.in_ok-event.ensures

pub returns-then-frames-room : goal.returns-then-frames-room
unfolding after_record
returns-then-frames-room c =
    let a = c.args in
    let p = so_far a.self.now in
    let r = c.in_ok-event.field-0 in
    found_full a.room p r.event r.next c.known_after-known.result c.frames_of.result c.stride_of.result c.requires.0 (sym c.in_ok-check_event.ensures)
    c.known_after-known.ensures c.frames_of.ensures.0 c.stride_of.ensures c.if-frames-room.true
    ∙ ap (after_record a.room p) c.in_ok-event.ensures

pub returns : goal.returns
unfolding after_record
returns c =
    let a = c.args in
    let p = so_far a.self.now in
    let r = c.in_ok-event.field-0 in
    found-room a.room p r.event r.next c.known_after-known.result c.frames_of.result c.stride_of.result c.requires.0 (sym c.in_ok-check_event.ensures)
    c.known_after-known.ensures c.frames_of.ensures.0 c.stride_of.ensures (omega (arith, c.if-frames-room.false))
    ∙ ap (after_record a.room p) c.in_ok-event.ensures
