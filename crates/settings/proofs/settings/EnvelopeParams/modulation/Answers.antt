-- `modulation`: each field is the definition's, once the code's numbers are those that it names (`of_bits`).
use mathlib.Core.Path.{refl}
use lib.Ieee.{of_bits}
use Rattle.settings.proofs.settings.EnvelopeParams.modulation.Goals as goal

pub returns : goal.returns
unfolding of_bits
returns c = refl
