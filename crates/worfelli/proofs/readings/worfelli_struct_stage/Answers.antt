-- `worfelli_struct_stage`: its number is that of the reply to the bank's own reading; an accepted one stores the value as a code, and a refused one
-- leaves what was there (`behind`).
use mathlib.Core.Path.{refl}
use Rattle.std.proofs.Common.{of_calls}
use Rattle.memory.specs.Memory.{stage_code}
use Rattle.bank.specs.Replies.{Reply}
use Rattle.worfelli.specs.OutParameters.{refusal, number}
use Rattle.worfelli.proofs.Behind.{mapped, behind}
use Rattle.worfelli.proofs.readings.worfelli_struct_stage.Goals as goal

pub returns : goal.returns
unfolding refusal number
returns c =
    let r = behind Reply.stage stage_code number (record { accepted = λ x. refl; written = λ x was. refl; refused = λ n was. refl }) c.stage.result _ c.stage.ensures c.map.result (mapped _ c.map.result _ stage_code c.map.ensures.cases (λ x y h. search of_calls)) _ c.args.stage.now _ c.put.ensures.refusal c.put.ensures.written in
    record { refusal = r.0; written = r.1 }
