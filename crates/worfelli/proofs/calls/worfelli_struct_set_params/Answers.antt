-- `worfelli_struct_set_params`: with every code named, what the bank's own `set_params` ensures of the settings; else 10, and the bank is not called.
-- These are the two cases of `answer`.
use mathlib.Core.Path.{refl, ap, ◌∙◌}
use Rattle.settings.specs.Refusals.{number}
use Rattle.worfelli.specs.Live.{answer}
use Rattle.worfelli.proofs.calls.worfelli_struct_set_params.Goals as goal

pub returns-in-Ok-clause-refusal : goal.returns-in-Ok-clause-refusal
unfolding answer
returns-in-Ok-clause-refusal c = rw (c.in-Ok.ensures.0, ← c.in-Ok.ensures.1) (c.number_of.ensures ∙ c.set_params.ensures.refusal)

pub returns-in-Ok-clause-bank : goal.returns-in-Ok-clause-bank
unfolding answer
returns-in-Ok-clause-bank c = rw (c.in-Ok.ensures.0, ← c.in-Ok.ensures.1) c.set_params.ensures.bank

pub returns-in-Err-clause-refusal : goal.returns-in-Err-clause-refusal
unfolding answer
returns-in-Err-clause-refusal c = rw c.in-Err.ensures.0 (c.number.ensures ∙ ap number c.in-Err.ensures.1)

pub returns-in-Err-clause-bank : goal.returns-in-Err-clause-bank
unfolding answer
returns-in-Err-clause-bank c = rw c.in-Err.ensures.0 refl
