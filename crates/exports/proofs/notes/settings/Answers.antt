-- `settings`: each field is the definition's, once the code's numbers are those that it names (`of_bits`).
use Rattle.std.proofs.Common.{refl}
use lib.Ieee.{of_bits}
use Rattle.exports.proofs.notes.settings.Goals as goal

pub returns : goal.returns
unfolding of_bits
returns c = refl
