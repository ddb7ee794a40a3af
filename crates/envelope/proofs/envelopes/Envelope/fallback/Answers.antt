-- The envelope beside a refused fresh call: its voice and its timing are the definition's, by what the two calls of `new` ensure.
use lib.Ieee.{of_bits}
use Rattle.envelope.proofs.envelopes.Envelope.fallback.Goals as goal

pub returns : goal.returns
unfolding of_bits
returns c = rw (c.new.ensures, c.new-2.ensures)
