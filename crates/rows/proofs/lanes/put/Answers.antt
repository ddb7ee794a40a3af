-- `put`: a store is one element more (`filled_more`); after N of them the whole part is there.
use Rattle.std.proofs.Common.{◌≡◌, ap, ◌∙◌, subst, ℕ, ◌+◌, ◌-◌, get_or, arith}
use Rattle.std.proofs.Math.ListN.{set}
use Rattle.std.proofs.lemmas.List.{get_or_default}
use Rattle.filled.specs.Filled.{Filled}
use Rattle.filled.proofs.Filling.{filled_more}
use Rattle.rows.proofs.lanes.put.Goals as goal

pub loop-i-preserved : goal.loop-i-preserved
loop-i-preserved g c = λ z.
    let a = c.args in
    let l = c.loop-i in
    let i : l.i ≡ a.to + l.i - a.to = omega arith in
    let more : a.to + l.i + 1 ≡ a.to + (l.i + 1) = omega arith in
    let v = get_or a.part.now l.i c.index-part-i.result in
    subst (λ (e : ℕ). Filled z (λ j. get_or a.part.now (j - a.to) z) a.to e a.out.now (set l.out (a.to + l.i) v)) more
    (filled_more z _ a.to (a.to + l.i) a.out.now l.out v (omega arith) (omega arith)
    (get_or_default a.part.now l.i c.index-part-i.result z (omega arith) ∙ ap (λ (k : ℕ). get_or a.part.now k z) i) (l.invariant z))

pub returns : goal.returns
returns g c = λ z.
    let a = c.args in
    let e : c.loop-i.i ≡ g.row.N = omega arith in
    subst (λ (n : ℕ). Filled z (λ j. get_or a.part.now (j - a.to) z) a.to (a.to + n) a.out.now c.loop-i.out) e (c.loop-i.invariant z)
