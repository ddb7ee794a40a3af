-- `params`: a voice that there is no room for has `AMP`, as the definition says.
use lib.Ieee.{of_bits}
use mathlib.Core.Path.{refl}
use borrow.Author.Tests.{le-ltb}
use Rattle.memory.proofs.arrays.Arrays.params.Goals as goal

pub returns : goal.returns
unfolding of_bits
returns c = rw (le-ltb _ _ c.if-v-lt-MAX_VOICES.false) refl
