-- `is_idle`: where there is no such voice it is refused (`reading_missing`); else the answer is the test of the stage in the arrays, which is the
-- bank's (`reading_present`).
use mathlib.Core.Path.{refl, ap, ◌∙◌}
use Prim.Native.Nat.{◌<◌}
use native.Mathlib.Omega.{arith}
use Rattle.settings.specs.Stages as Stages
use Rattle.envelope.specs.declared.envelopes.Envelope.{Envelope}
use Rattle.envelope.specs.Envelopes as Envelopes
use Rattle.memory.specs.Memory.{count_of, voice_at}
use Rattle.memory.proofs.Storing.{room}
use Rattle.bank.specs.Calls.{Query, query_refusal}
use Rattle.bank.specs.Replies.{Reply, query_reply, of_reading}
use Rattle.bank.proofs.Replying.{reading_present, reading_missing}
use Rattle.bank.proofs.banks.Bank.is_idle.Goals as goal

pub returns-in_err-check : goal.returns-in_err-check
unfolding query_refusal
returns-in_err-check c =
    let a = c.args in
    reading_missing a.self.now.arrays (Query.is_idle a.voice) a.voice refl Reply.is_idle c.from_residual.result c.in_err-check.field-0.0 c.from_residual.ensures.1 c.in_err-check.ensures

pub returns : goal.returns
unfolding voice_at query_refusal query_reply of_reading
returns c =
    let a = c.args in
    let m = a.self.now.arrays in
    let n : a.voice < count_of a.self.now.arrays.codes = c.in_ok-check.ensures in
    let h : a.voice < 64 = omega (arith, n) in
    ap Reply.is_idle (c.is_idle.ensures ∙ ap Stages.is_idle (c.stage.ensures ∙ room a.voice _ _ h))
    ∙ reading_present m (Query.is_idle a.voice) a.voice refl (λ (e : Envelope). Reply.is_idle (Envelopes.is_idle e)) refl n
