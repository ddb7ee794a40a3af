-- `Passed::records`: the invariant holds before the first record (`left_all`), and a record that is accepted keeps it (`left_one`). One that is
-- refused refuses the whole list (`left_refused`), and at the list's end nothing is left (`left_none`). An accepted record is past the one before it
-- (`at-past`), so that fewer bytes are left each time.
use mathlib.Core.Path.{ap, ◌∙◌}
use Prim.Native.Nat.{ℕ}
use native.Mathlib.Omega.{arith}
use Rattle.settings.proofs.Propagated.{number_of-propagated, number-some}
use Rattle.checking.proofs.Passing.{left_all, at-past, left_one, left_refused, left_none}
use Rattle.checking.proofs.Passed.records.Goals as goal

pub loop-self-init : goal.loop-self-init
loop-self-init c = left_all _ _ c.args.self.now (record { voices = c.requires.0; levels = c.requires.1 })

pub loop-self-smaller : goal.loop-self-smaller
loop-self-smaller c =
    let l = c.loop-self in
    omega (arith, c.loop-self-test.true, at-past c.args.list.now c.args.room c.args.self.now l.self l.invariant c.record.new.self c.in_ok-record.ensures)

pub loop-self-preserved : goal.loop-self-preserved
loop-self-preserved c =
    let l = c.loop-self in
    left_one _ _ _ l.self l.invariant c.record.new.self c.loop-self-test.true c.in_ok-record.ensures

pub returns-in_err-record : goal.returns-in_err-record
returns-in_err-record c =
    let l = c.loop-self in
    let q = c.record.new.self in
    let e = c.in_err-record in
    ap (λ (n : ℕ). record { refusal = n; at = q.at; known = q.known; frames = q.frames }) (number_of-propagated _ _ c.from_residual.ensures.1)
    ∙ left_refused _ _ _ l.self l.invariant _ c.loop-self-test.true (number-some e.field-0.0) e.ensures

pub returns : goal.returns
returns c =
    let l = c.loop-self in
    left_none _ _ _ l.self l.invariant (omega (arith, c.loop-self-test.false))
