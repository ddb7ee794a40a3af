-- `load`: a voice that there is room for is its plan and its segment, `voice_at`; any other is the idle voice of the definition.
use lib.Ieee.{of_bits}
use borrow.Author.Tests.{lt-ltb, le-ltb}
use Rattle.memory.specs.Memory.{voice_at}
use Rattle.memory.proofs.arrays.Arrays.load.Goals as goal

pub returns-then-v-lt-MAX_VOICES : goal.returns-then-v-lt-MAX_VOICES
unfolding voice_at
returns-then-v-lt-MAX_VOICES c = rw (lt-ltb _ _ c.if-v-lt-MAX_VOICES.true) cc

pub returns : goal.returns
unfolding of_bits
returns c = rw (le-ltb _ _ c.if-v-lt-MAX_VOICES.false) c.new.ensures
