-- `store`: each array is the old one with a voice's numbers put at that voice's places, so the voice is read back and every other number is as before
-- (`stored_by`). The arrays' lengths put the places in bounds. Where there is no room nothing is stored (`none-stored`).
use mathlib.Core.Path.{sym, ap, ◌∙◌}
use Prim.Native.Nat.{◌+◌, ◌*◌}
use lib.ListN.{length}
use Rattle.memory.proofs.Spaced.{length-puts}
use Rattle.memory.proofs.Storing.{floats_in, stored_by, none-stored}
use Rattle.memory.proofs.arrays.Arrays.store.Goals as goal

pub returns-then-v-ge-MAX_VOICES : goal.returns-then-v-ge-MAX_VOICES
returns-then-v-ge-MAX_VOICES c = none-stored _ _ _ c.if-v-ge-MAX_VOICES.true

pub returns : goal.returns
returns c =
    stored_by _ _ c.args.v c.args.voice _ _ c.store_floats.ensures c.store_segment.ensures.floats c.store_counts.ensures.bends
    c.store_counts.ensures.counts c.store_codes.ensures c.store_segment.ensures.codes c.if-v-ge-MAX_VOICES.false
    (let h = c.store_floats.array_long in
    let e = sym (length-puts 1 0 (floats_in c.args.voice) c.args.self.now.floats (340 + 14 * c.args.v)) ∙ sym (ap length c.store_floats.ensures) in
    record { bends = h.0; counts = h.1; floats = e ∙ h.2; codes = h.3 })
