-- `change_voice`: load, change, store. What is stored is the change of the voice that was there, and every other number is as before (`Stored`, by
-- `stored_as`).
use mathlib.Core.Path.{ap, ◌∙◌}
use Rattle.lane.specs.declared.lanes.Voice.{Voice}
use Rattle.memory.proofs.Storing.{stored_as}
use Rattle.bank.specs.Parts.{changed}
use Rattle.bank.proofs.changes.change_voice.Goals as goal

pub returns : goal.returns
returns c =
    let a = c.args in
    let m = a.m.now in
    stored_as a.v _ _ m _
    (c.changed.ensures ∙ ap (λ (x : Voice). changed a.timing a.change x) c.load.ensures) c.store.ensures
