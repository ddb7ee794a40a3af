-- `samples`: seconds, scale and rate, each limited first, and their product rounded: the definition, by what the five callees ensure.
use lib.Ieee.{of_bits}
use Rattle.timing.specs.Samples.{samples, product}
use Rattle.timing.proofs.Timing.samples.Goals as goal

pub returns : goal.returns
unfolding samples product of_bits
returns c =
    simp
    (c.round_to_u64.ensures, c.max.ensures, c.clamp-scale.ensures, c.max-time.ensures, c.seconds.ensures)
