-- `draw`: frames for which there is room are never refused, so bank and output are those of the definition (`frames-drawn`); no product overflows,
-- since a row has at most 64 lanes and all rows fit the output.
use mathlib.Core.Path.{ap, ◌∙◌}
use Prim.Native.Nat.{ℕ, ◌*◌}
use native.Mathlib.Omega.{arith}
use Rattle.bank.specs.Banks.{bank_of}
use Rattle.player.proofs.Doing.{frames-drawn, bytes_drawn, stride-small}
use Rattle.player.proofs.draw.Goals as goal

pub overflow_mul-row : goal.overflow_mul-row
overflow_mul-row c = omega (arith, c.stride-row.ensures, stride-small c.args.bank.now.arrays)

pub returns : goal.returns
returns c =
    let a = c.args in
    let b = bank_of a.bank.now.arrays in
    let e = c.process_bytes.ensures in
    let r = frames-drawn b a.out.now a.frames _ _ c.requires e.bank e.levels in
    record { bank = r.0; levels = r.1; count = ap (λ (n : ℕ). a.frames * (4 * n)) c.stride-row.ensures ∙ bytes_drawn b a.frames }
