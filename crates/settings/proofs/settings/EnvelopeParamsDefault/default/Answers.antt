-- `default`: the constant is the definition, number by number.
use mathlib.Core.Path.{refl}
use lib.Ieee.{of_bits}
use Rattle.settings.proofs.settings.EnvelopeParamsDefault.default.Goals as goal

pub returns : goal.returns
unfolding of_bits
returns c = refl
