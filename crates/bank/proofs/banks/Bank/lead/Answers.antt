-- `lead`: where there is no such voice it is refused (`reading_missing`); else it is `lead` of the voice and the timing in the arrays, which are the
-- bank's (`reading_present`).
use mathlib.Core.Path.{refl, ap, ◌∙◌}
use Prim.Native.Nat.{◌<◌}
use native.Mathlib.Omega.{arith}
use Rattle.timing.specs.declared.Timing.{Timing}
use Rattle.lane.specs.declared.lanes.Voice.{Voice}
use Rattle.lane.specs.Readings as Readings
use Rattle.envelope.specs.declared.envelopes.Envelope.{Envelope}
use Rattle.envelope.specs.Envelopes as Envelopes
use Rattle.memory.specs.Memory.{count_of, timing_at}
use Rattle.memory.proofs.Storing.{room}
use Rattle.bank.specs.Calls.{Query, query_refusal}
use Rattle.bank.specs.Replies.{Reply, query_reply, of_reading}
use Rattle.bank.proofs.Replying.{reading_present, reading_missing}
use Rattle.bank.proofs.banks.Bank.lead.Goals as goal

pub returns-in_err-check : goal.returns-in_err-check
unfolding query_refusal
returns-in_err-check c =
    let a = c.args in
    reading_missing a.self.now.arrays (Query.lead a.voice) a.voice refl Reply.count c.from_residual.result c.in_err-check.field-0.0 c.from_residual.ensures.1 c.in_err-check.ensures

pub returns : goal.returns
unfolding query_refusal query_reply of_reading
returns c =
    let a = c.args in
    let m = a.self.now.arrays in
    let n : a.voice < count_of a.self.now.arrays.codes = c.in_ok-check.ensures in
    let h : a.voice < 64 = omega (arith, n) in
    ap Reply.count (c.lead.ensures ∙ ap (λ (t : Timing). Readings.lead t c.load.result) c.timing.ensures ∙ ap (λ (x : Voice). Readings.lead (timing_at a.self.now.arrays.bends) x) (c.load.ensures ∙ room a.voice _ _ h))
    ∙ reading_present m (Query.lead a.voice) a.voice refl (λ (e : Envelope). Reply.count (Envelopes.lead e)) refl n
