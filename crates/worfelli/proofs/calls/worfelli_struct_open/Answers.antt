-- `worfelli_struct_open`: with codes that each name something, the bank's own `open` of the settings that they stand for; else 10, and the bank of no
-- voices that a refused opening leaves.
use mathlib.Core.Path.{ap, ◌∙◌}
use lib.Ieee.{of_bits}
use Rattle.settings.specs.Refusals.{number}
use Rattle.worfelli.specs.Live.{opening_refusal}
use Rattle.worfelli.proofs.calls.worfelli_struct_open.Goals as goal

pub returns-in-Ok : goal.returns-in-Ok
unfolding opening_refusal
returns-in-Ok c =
    let h = c.in-Ok.ensures in
    let E = c.open.ensures in
    record {
      refusal = rw (h.0, ← h.1, ← c.timing_of.ensures) (c.number_of.ensures ∙ E.refusal);
      bank = rw (h.0, ← h.1, ← c.timing_of.ensures) E.bank;
      kept = rw (h.0, ← h.1, ← c.timing_of.ensures) E.kept;
    }

pub returns-in-Err : goal.returns-in-Err
unfolding opening_refusal of_bits
returns-in-Err c =
    let h = c.in-Err.ensures in
    let E = c.open-in-Err.ensures in
    record {
      refusal = rw h.0 (c.number.ensures ∙ ap number h.1);
      bank = rw (h.0, ← c.new.ensures) E.bank;
      kept = rw (h.0, ← c.new.ensures) E.kept;
    }
