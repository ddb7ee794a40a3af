-- `constant`: where d equals 0, r equals 1 and u is +0 in all sixteen lanes, a row leaves u as it is (`still_of_tests`). An answer of `false` claims
-- nothing.
use Rattle.std.proofs.Common.{◌≡◌, sym, ◌∙◌, true, ℕ, ◌+◌, ◌<◌, get_or, arith, rules}
use borrow.Author.Tests.{leb-true}
use mathlib.Core.Bool.{true≢false}
use Rattle.std.specs.Float.{nan}
use Rattle.std.specs.Float.Ieee.{eq, of_bits}
use Rattle.numbers.specs.Constants as Constants
use Rattle.rows.proofs.LanesMoved.{still_of_tests}
use Rattle.rows.proofs.lanes.constant.Goals as goal
use Rattle.rows.proofs.lanes.constant.Goals.{then-rows-ge-STILL_ROWS, else-rows-ge-STILL_ROWS, then-all, else-all}

pub returns-then-all-2 : goal.returns-then-all-2
unfolding of_bits
returns-then-all-2 c = λ e.
    let a = c.args in
    let U : (i : ℕ) → i < 16 → get_or a.f.now (a.g + i) nan ≡ Constants.zero = λ i h. let k = c.all-then-all-2.ensures e i h in search rules in
    elim c.if-all.branch [
      | then-all w ↦ elim c.if-rows-ge-STILL_ROWS.branch [
        | then-rows-ge-STILL_ROWS v ↦
            let R : (i : ℕ) → i < 16 → eq (get_or a.f.now (a.g + 68 + i) nan) Constants.one ≡ true =
            λ i h. let k = w.all-then-all.ensures (sym w.value-is ∙ c.if-all-2.true) i h in search rules
            in
            let D : (i : ℕ) → i < 16 → eq (get_or a.f.now (a.g + 136 + i) nan) Constants.zero ≡ true =
            λ i h. let k = v.all.ensures (sym v.value-is ∙ w.if-all.true) i h in search rules
            in
            (still_of_tests a.g a.f.now D R U, omega arith)
        | else-rows-ge-STILL_ROWS v ↦ absurd (omega (arith, leb-true 4 a.rows (sym v.value-is ∙ w.if-all.true)))
      ]
      | else-all w ↦ absurd (true≢false (sym c.if-all-2.true ∙ w.value-is ∙ w.if-all.false))
    ]
