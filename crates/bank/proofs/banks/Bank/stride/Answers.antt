-- `stride`: sixteen lanes for each group of the bank's voices (`size_of`), of which there are never more than 64.
use mathlib.Core.Path.{◌≡◌, ap, ◌∙◌}
use Prim.Native.Nat.{ℕ, ◌*◌, min}
use native.Mathlib.Omega.{arith}
use Rattle.rows.specs.Strides.{stride_of}
use Rattle.bank.specs.Banks.{bank_of, size}
use Rattle.bank.proofs.Representation.{size_of}
use Rattle.bank.proofs.banks.Bank.stride.Goals as goal

pub returns : goal.returns
returns c =
    let a = c.args in
    let n = c.voices.ensures in
    let e : min c.voices.result 64 ≡ size (bank_of a.self.now.arrays) = omega (arith, n, size_of a.self.now.arrays) in
    ap (λ (g : ℕ). 16 * g) c.groups.ensures ∙ ap stride_of e
