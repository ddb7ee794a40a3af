-- Constants as the code writes them, by their binary64 patterns; `unfolding of_bits` makes each the value that the definitions name.
use lib.Ieee.{Float, binary64, of_bits}

abbrev pub half' : Float
half' = of_bits binary64 0x3fe0_0000_0000_0000

abbrev pub one' : Float
one' = of_bits binary64 0x3ff0_0000_0000_0000

abbrev pub two' : Float
two' = of_bits binary64 0x4000_0000_0000_0000
