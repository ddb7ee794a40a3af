-- `worfelli_struct_tail`: its number is that of the reply to the bank's own reading; an accepted one stores the value, and a refused one leaves what
-- was there (`behind`).
use mathlib.Core.Path.{refl}
use Rattle.bank.specs.Replies.{Reply}
use Rattle.worfelli.specs.OutParameters.{refusal, number}
use Rattle.worfelli.proofs.Behind.{same, behind}
use Rattle.worfelli.proofs.readings.worfelli_struct_tail.Goals as goal

pub returns : goal.returns
unfolding refusal number
returns c =
    let r = behind Reply.count (λ x. x) number (record { accepted = λ x. refl; written = λ x was. refl; refused = λ n was. refl }) c.tail.result _ c.tail.ensures _ (same c.tail.result) _ c.args.frames.now _ c.put.ensures.refusal c.put.ensures.written in
    record { refusal = r.0; written = r.1 }
