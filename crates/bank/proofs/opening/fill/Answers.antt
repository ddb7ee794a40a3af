-- `fill`: an iteration stores one voice more (`spread_more`), for which there is room; after all of them the invariant is the statement.
use mathlib.Core.Path.{◌≡◌, refl, subst}
use Prim.Native.Nat.{ℕ, ◌<◌}
use native.Mathlib.Omega.{arith}
use Rattle.bank.specs.Parts.{Spread}
use Rattle.bank.proofs.Representation.{spread_none, spread_more}
use Rattle.bank.proofs.opening.fill.Goals as goal

pub loop-v-init : goal.loop-v-init
loop-v-init c =
    let a = c.args in
    spread_none (λ _. a.voice) a.m.now

pub loop-v-preserved : goal.loop-v-preserved
loop-v-preserved c =
    let l = c.loop-v in
    let a = c.args in
    let h : l.v < 64 = omega (arith, c.loop-v-test.true, c.requires) in
    spread_more (λ _. a.voice) a.m.now l.v _ l.m _ h refl l.invariant c.store.ensures

pub returns : goal.returns
returns c =
    let l = c.loop-v in
    let a = c.args in
    let e : l.v ≡ a.voices = omega (arith, c.loop-v-test.false) in
    subst (λ (n : ℕ). Spread (λ _. a.voice) n a.m.now l.m) e l.invariant
