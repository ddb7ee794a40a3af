-- `print`: by the list's length, then by its check. The voices of a checked list are few, and the output holds its frames (`checked-has_room`).
use Rattle.std.proofs.Common.{◌≡◌, ℕ, ◌*◌, min, ap, ◌∙◌, refl, subst, sym, arith}
use Rattle.rows.specs.Strides.{stride_of}
use Rattle.bank.proofs.Frames.{stride_holds}
use Rattle.settings.specs.Refusals.{number, number_of}
use Rattle.settings.proofs.Propagated.{number-some}
use Rattle.checking.specs.Checks.{seen}
use Rattle.checking.proofs.Passing.{HasRoom, checked-has_room}
use Rattle.printing.specs.Lines as Lines
use Rattle.printing.proofs.Writing.{renamed}
use Rattle.printing.proofs.Room.{fits}
use Rattle.printing.proofs.Printed.{too-long, refused, accepted}
use Rattle.printing.proofs.lines.print.Goals as goal
use Rattle.printing.proofs.lines.print.Goals.{After-stride_of}

pub returns-then-list-gt-MOST_BYTES : goal.returns-then-list-gt-MOST_BYTES
returns-then-list-gt-MOST_BYTES c =
    let p = renamed _ c.put.ensures (too-long c.args.list.now (omega arith)) in
    record { bytes = p.bytes; count = p.count; room = fits c.args.list.now }

pub returns-in-Err : goal.returns-in-Err
returns-in-Err c =
    let q = c.check-checked in
    let z : number_of q.result.verdict ≡ number c.in-Err.refused = ap number_of c.in-Err.is in
    let text =
    ap (λ (n : ℕ). Lines.refusal n q.result.passed.at) (sym z)
    ∙ refused c.args.list.now (omega arith) (seen q.result.verdict q.result.passed) q.ensures (λ h. number-some c.in-Err.refused (sym z ∙ h))
    in
    let p = renamed _ c.refusal.ensures text in
    record { bytes = p.bytes; count = p.count; room = fits c.args.list.now }

has_room : (c : After-stride_of) → HasRoom 16384 (seen c.check-checked.result.verdict c.check-checked.result.passed)
has_room c = subst (HasRoom 16384) (sym c.check-checked.ensures) (checked-has_room c.args.list.now (4 * 16384))

stride : (c : After-stride_of) → c.stride_of.result ≡ stride_of c.check-checked.result.passed.known.voices
stride c =
    let n = c.check-checked.result.passed.known.voices in
    let few : min n 64 ≡ n = omega (arith, (has_room c).voices) in
    c.stride_of.ensures ∙ ap stride_of few

pub frames-requires : goal.frames-requires
frames-requires c =
    let q = c.check-checked in
    let o = (goal.at.frames-requires c).After-stride_of in
    let levels = ap (λ (s : ℕ). q.result.passed.frames * s) (stride o) in
    (omega (arith, stride o, (stride_holds q.result.passed.known.voices).0), omega (arith, levels, (has_room o).levels, c.play.auto.out))

pub returns : goal.returns
returns c =
    let q = c.check-checked in
    let s = seen q.result.verdict q.result.passed in
    let o = (goal.at.returns c).After-stride_of in
    let text =
    ap (λ (w : ℕ). Lines.frames (Lines.bits_in c.play.new.out) s.known.voices w s.frames) (stride o)
    ∙ accepted c.args.list.now (omega arith) s q.ensures _ c.play.new.out refl c.play.ensures.output (ap number_of c.in_default.is)
    in
    let p = renamed _ c.frames.ensures text in
    record { bytes = p.bytes; count = p.count; room = fits c.args.list.now }
