-- `with_all`: an iteration changes one voice more (`spread_more`); once it was all of them, the bank is changed (`spread_all`).
use mathlib.Core.Path.{◌≡◌, refl, subst}
use Prim.Native.Nat.{◌<◌}
use native.Mathlib.Omega.{arith}
use Rattle.timing.specs.declared.Timing.{Timing}
use Rattle.memory.specs.Memory.{count_of}
use Rattle.bank.specs.Parts.{changed, All}
use Rattle.bank.proofs.Representation.{spread_none, spread_more, spread_all}
use Rattle.bank.proofs.changes.with_all.Goals as goal

pub loop-v-init : goal.loop-v-init
loop-v-init c =
    let a = c.args in
    spread_none (changed c.timing-timing.result a.by) a.m.now

pub loop-v-preserved : goal.loop-v-preserved
loop-v-preserved c =
    let l = c.loop-v in
    let a = c.args in
    let h : l.v < 64 = omega (arith, c.loop-v-test.true, c.voices-voices.ensures) in
    spread_more (changed c.timing-timing.result a.by) a.m.now l.v _ l.m _ h refl l.invariant c.change_voice.ensures

pub returns : goal.returns
returns c =
    let l = c.loop-v in
    let a = c.args in
    let m = a.m.now in
    let e : l.v ≡ count_of a.m.now.codes = omega (arith, c.loop-v-test.false, c.voices-voices.ensures) in
    subst (λ (t : Timing). All (changed t a.by) m l.m) c.timing-timing.ensures
    (spread_all (changed c.timing-timing.result a.by) m l.v l.m e l.invariant)
