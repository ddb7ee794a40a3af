-- `process_bytes`: without room nothing is changed (`bytes-refused`); else the frames were drawn, in bytes (`bytes-done`). The code divides where
-- `draw_frames` requires a product and the definition multiplies, since a product might overflow; the tests are the same.
use mathlib.Core.Path.{◌≡◌, ap, ◌∙◌, subst}
use Prim.Native.Nat.{ℕ, ◌*◌, ◌/◌, ◌≤◌, ◌<◌, min}
use native.Mathlib.Omega.{arith}
use native.Mathlib.Nat.{le-div_iff_mul-le}
use lib.ListN.{length}
use Rattle.rows.specs.Strides.{groups_of}
use Rattle.bank.proofs.Whole.{bytes-refused, bytes-done}
use Rattle.bank.proofs.banks.Bank.process_bytes.Goals as goal
use Rattle.bank.proofs.banks.Bank.process_bytes.Goals.{After-groups-row}

-- The voices and their groups.
few : (c : After-groups-row) → (c.voices-voices.result ≤ 64) × (1 ≤ c.groups-row.result) × (c.groups-row.result ≤ 4)
few c =
    let v = c.voices-voices.ensures in
    let g = c.groups-row.ensures in
    (omega (arith, v), omega (arith, g), omega (arith, g))

counted : (c : After-groups-row) → 64 * c.groups-row.result ≡ 64 * groups_of c.voices-voices.result
counted c =
    let e : min c.voices-voices.result 64 ≡ c.voices-voices.result = omega (arith, (few c).0) in
    ap (λ (n : ℕ). 64 * n) (c.groups-row.ensures ∙ ap groups_of e)

pub overflow_mul-row : goal.overflow_mul-row
overflow_mul-row c = omega (arith, few c)

pub nonzero_div-out : goal.nonzero_div-out
nonzero_div-out c = omega (arith, few c)

pub returns-then-out-row : goal.returns-then-out-row
returns-then-out-row c =
    let a = c.args in
    let r = bytes-refused a.self.now.arrays a.out.now c.voices-voices.result a.frames c.voices-voices.ensures
    (subst (λ (s : ℕ). length a.out.now / s < a.frames) (counted (goal.at.returns-then-out-row c).After-groups-row) c.if-out-row.true) in
    record { refusal = r.0; bank = r.1.0; levels = r.1.1.0; kept = r.1.1.1 }

pub draw_frames-requires : goal.draw_frames-requires
draw_frames-requires c =
    let pos : 0 < 64 * c.groups-row.result = omega (arith, few (goal.at.draw_frames-requires c).After-groups-row) in
    let room : c.args.frames * (64 * c.groups-row.result) ≤ length c.args.out.now = (le-div_iff_mul-le pos).0 (omega (arith, c.if-out-row.false)) in
    record {
      few = (few (goal.at.draw_frames-requires c).After-groups-row).0;
      room = subst (λ (s : ℕ). c.args.frames * s ≤ length c.args.out.now) (counted (goal.at.draw_frames-requires c).After-groups-row) room;
    }

pub returns : goal.returns
returns c =
    let a = c.args in
    let k = counted (goal.at.returns c).After-groups-row in
    let pos : 0 < 64 * c.groups-row.result = omega (arith, few (goal.at.returns c).After-groups-row) in
    let room : a.frames * (64 * c.groups-row.result) ≤ length a.out.now = (le-div_iff_mul-le pos).0 (omega (arith, c.if-out-row.false)) in
    let r = bytes-done a.self.now.arrays a.out.now c.voices-voices.result a.frames c.voices-voices.ensures _ _
    (subst (λ (s : ℕ). a.frames * s ≤ length a.out.now) k room) c.draw_frames.ensures in
    record { refusal = r.0; bank = r.1.0; levels = r.1.1.0; kept = r.1.1.1 }
