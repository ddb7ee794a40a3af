-- `worfelli_struct_is_idle`: its number is that of the reply to the bank's own reading; an accepted one stores the value as a code, and a refused one
-- leaves what was there (`behind`).
use mathlib.Core.Path.{◌≡◌, refl}
use mathlib.Core.Bool.{Bool, true, false}
use Prim.Native.Nat.{ℕ}
use mir.Val.{bool_byte}
use Rattle.memory.specs.Memory.{flag_code}
use Rattle.bank.specs.Replies.{Reply}
use Rattle.worfelli.specs.OutParameters.{refusal, number}
use Rattle.worfelli.proofs.Behind.{mapped, behind}
use Rattle.worfelli.proofs.readings.worfelli_struct_is_idle.Goals as goal

flag : (x : Bool) (y : ℕ) → y ≡ bool_byte x → y ≡ flag_code x
flag true y h = h
flag false y h = h

pub returns : goal.returns
unfolding refusal number
returns c =
    let r = behind Reply.is_idle flag_code number (record { accepted = λ x. refl; written = λ x was. refl; refused = λ n was. refl }) c.is_idle.result _ c.is_idle.ensures c.map.result (mapped _ c.map.result _ flag_code c.map.ensures.cases flag) _ c.args.idle.now _ c.put.ensures.refusal c.put.ensures.written in
    record { refusal = r.0; written = r.1 }
