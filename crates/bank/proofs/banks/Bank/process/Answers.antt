-- `process`: an output that is not whole frames is refused and nothing is changed (`process-refused`); else all its frames were drawn
-- (`process-done`). There are one to four groups, so the divisor is not 0 and the stride does not overflow (`few`).
use mathlib.Core.Path.{◌≡◌, ap, ◌∙◌}
use Prim.Native.Nat.{ℕ, ◌*◌, ◌≤◌, min}
use native.Mathlib.Omega.{arith}
use Rattle.rows.specs.Strides.{stride_of}
use Rattle.bank.proofs.Whole.{process-refused, process-done}
use Rattle.bank.proofs.banks.Bank.process.Goals as goal
use Rattle.bank.proofs.banks.Bank.process.Goals.{After-groups-stride}

-- The voices and their groups.
few : (c : After-groups-stride) → (c.voices-voices.result ≤ 64) × (1 ≤ c.groups-stride.result) × (c.groups-stride.result ≤ 4)
few c =
    let v = c.voices-voices.ensures in
    let g = c.groups-stride.ensures in
    (omega (arith, v), omega (arith, g), omega (arith, g))

counted : (c : After-groups-stride) → 16 * c.groups-stride.result ≡ stride_of c.voices-voices.result
counted c =
    let e : min c.voices-voices.result 64 ≡ c.voices-voices.result = omega (arith, (few c).0) in
    ap (λ (n : ℕ). 16 * n) c.groups-stride.ensures ∙ ap stride_of e

pub overflow_mul-stride : goal.overflow_mul-stride
overflow_mul-stride c = omega (arith, few c)

pub nonzero_rem-out : goal.nonzero_rem-out
nonzero_rem-out c = omega (arith, few c)

pub returns-then-out-stride-ne0 : goal.returns-then-out-stride-ne0
returns-then-out-stride-ne0 c =
    let a = c.args in
    let r = process-refused a.self.now.arrays a.out.now c.voices-voices.result (16 * c.groups-stride.result) c.voices-voices.ensures (counted (goal.at.returns-then-out-stride-ne0 c).After-groups-stride) c.if-out-stride-ne0.true in
    record { refusal = r.0; bank = r.1.0; levels = r.1.1.0; kept = r.1.1.1 }

pub returns : goal.returns
returns c =
    let a = c.args in
    let r = process-done a.self.now.arrays a.out.now c.voices-voices.result (16 * c.groups-stride.result) c.voices-voices.ensures (counted (goal.at.returns c).After-groups-stride) _ _
    c.if-out-stride-ne0.false c.draw_frames.ensures in
    record { refusal = r.0; bank = r.1.0; levels = r.1.1.0; kept = r.1.1.1 }
