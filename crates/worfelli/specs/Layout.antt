-- What a host and the library have to agree on.
use Rattle.std.specs.Prelude.{ℕ, ◌+◌, ◌*◌}
use Rattle.memory.specs.Memory.{floats_length, bends_length, counts_length, codes_length}

-- One number for the functions, their types and how a bank lies in memory.
abbrev pub version : ℕ
version = 1

-- The bytes of a bank: numbers of eight bytes, numbers of four, and four for the version that it was opened by.
abbrev pub bank_size : ℕ
bank_size = 8 * (bends_length + counts_length) + 4 * (floats_length + codes_length) + 4
