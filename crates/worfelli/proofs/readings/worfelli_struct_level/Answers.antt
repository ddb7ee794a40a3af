-- `worfelli_struct_level`: its number is that of the reply to the bank's own reading; an accepted one stores the value, and a refused one leaves what
-- was there (`behind`).
use mathlib.Core.Path.{refl}
use Rattle.bank.specs.Replies.{Reply}
use Rattle.worfelli.specs.OutParameters.{refusal, level}
use Rattle.worfelli.proofs.Behind.{same, behind}
use Rattle.worfelli.proofs.readings.worfelli_struct_level.Goals as goal

pub returns : goal.returns
unfolding refusal level
returns c =
    let r = behind Reply.level (λ x. x) level (record { accepted = λ x. refl; written = λ x was. refl; refused = λ n was. refl }) c.level.result _ c.level.ensures _ (same c.level.result) _ c.args.level.now _ c.put.ensures.refusal c.put.ensures.written in
    record { refusal = r.0; written = r.1 }
