-- The numbers that the definitions name, as values: `fin s m e` is m × 2^e, negative where s is true.
use Rattle.std.specs.Prelude.{false, pos, negsuc, from_bits, Float}
use Rattle.std.specs.Float.{fin, binary64}

abbrev pub zero : Float
zero = fin false 0 (pos 0)

abbrev pub half : Float
half = fin false 1 (negsuc 0)

abbrev pub one : Float
one = fin false 1 (pos 0)

abbrev pub one_and_half : Float
one_and_half = fin false 3 (negsuc 0)

abbrev pub two : Float
two = fin false 1 (pos 1)

abbrev pub sixty_four : Float
sixty_four = fin false 1 (pos 6)

-- LN2 of document 01, by its bits.
abbrev pub ln2 : Float
ln2 = from_bits binary64 0x3fe6_2e42_fefa_39ef
