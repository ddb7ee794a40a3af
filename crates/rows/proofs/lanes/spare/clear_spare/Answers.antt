-- `clear_spare`: the five stores of an iteration make one lane more silent (`cleared_more`); the range ends where the last group does.
use Rattle.std.proofs.Common.{◌≡◌, subst, ℕ, min, arith}
use Rattle.std.specs.Float.Ieee.{of_bits}
use Rattle.memory.specs.Memory.{max_voices}
use Rattle.rows.specs.Rows.{Cleared}
use Rattle.rows.specs.Strides.{stride_of}
use Rattle.rows.proofs.SpareLanes.{cleared_more}
use Rattle.rows.proofs.lanes.spare.clear_spare.Goals as goal

pub loop-w-preserved : goal.loop-w-preserved
unfolding of_bits
loop-w-preserved c =
    let l = c.loop-w in
    cleared_more c.count-w.result l.w _ l.f (omega arith) (omega arith) (omega arith) l.invariant

pub returns : goal.returns
returns c =
    let a = c.args in
    let l = c.loop-w in
    let N = min a.voices max_voices in
    let e : l.w ≡ stride_of N = omega arith in
    subst (λ (m : ℕ). Cleared m (stride_of N) a.f.now l.f) c.count-w.ensures
    (subst (λ (s : ℕ). Cleared c.count-w.result s a.f.now l.f) e l.invariant)
