-- `join`: the code tests first for the voice to copy, the definition for the one that changes; both refuse by 2, so the number is the same (`both`).
-- Else the voice that was loaded is the bank's (`loaded_voice`), and what `with` ensures of one voice is the bank's answer (`of_one`).
use mathlib.Core.Path.{◌≡◌, sym, ap, ◌∙◌}
use native.Mathlib.Omega.{arith}
use borrow.Author.Tests.{lt-ltb, le-ltb}
use Rattle.settings.specs.Refusals.{number}
use Rattle.lane.specs.declared.lanes.Voice.{Voice}
use Rattle.memory.specs.Memory.{timing_at}
use Rattle.bank.specs.declared.changes.Change.TheVariants.{Join}
use Rattle.bank.specs.Calls.{Call, voice_refusal, refusal}
use Rattle.bank.specs.Banks.{bank_of, size, known, voice, put, after_accepted}
use Rattle.bank.specs.Parts.{changed}
use Rattle.bank.proofs.Representation.{size_of, loaded_voice}
use Rattle.bank.proofs.Answers.{propagated, of_one, both}
use Rattle.bank.proofs.banks.Bank.join.Goals as goal

pub returns-in_err-check : goal.returns-in_err-check
unfolding refusal
returns-in_err-check c =
    let a = c.args in
    let m = a.self.now.arrays in
    let h = c.in_err-check.ensures in
    let none : voice_refusal (known (bank_of m)) a.from 0 ≡ 2 = rw (le-ltb a.from (size (bank_of m)) (omega (arith, h.1, size_of m))) in
    let r = propagated (Call.join a.voice a.from) m c.from_residual.result c.in_err-check.field-0.0 c.from_residual.ensures.1
    (ap number h.0 ∙ sym (both (known (bank_of m)) a.voice a.from none)) in
    record { refusal = r.0; bank = r.1.0; kept = r.1.1 }

pub returns : goal.returns
unfolding refusal after_accepted changed
returns c =
    let a = c.args in
    let m = a.self.now.arrays in
    let n = c.in_ok-check.ensures in
    let e : c.load-source.result ≡ voice (bank_of m) a.from = c.load-source.ensures ∙ loaded_voice m a.from n in
    let r = of_one (Call.join a.voice a.from) m a.voice (changed (timing_at m.bends) (Join c.load-source.result))
    (rw (lt-ltb a.from (size (bank_of m)) (omega (arith, n, size_of m)))) (ap (λ (x : Voice). put a.voice x (bank_of m)) (sym e)) _ _ c.with.ensures in
    record { refusal = r.0; bank = r.1.0; kept = r.1.1 }
