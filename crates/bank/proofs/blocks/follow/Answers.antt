-- `follow`: the search finds the first voice that has ended, or none. An iteration follows that voice (`next-followed`); those up to the next one
-- found have not ended, so that following them changes nothing (`next-found`). The next one is past it, so that fewer voices are left each time.
use mathlib.Core.Path.{◌≡◌, subst}
use Prim.Native.Nat.{ℕ, ◌+◌}
use native.Mathlib.Omega.{arith}
use Rattle.timing.specs.declared.Timing.{Timing}
use Rattle.bank.specs.Parts.{changed, followed, Spread}
use Rattle.bank.proofs.Representation.{spread_none}
use Rattle.bank.proofs.Runs.{found, next-found, next-followed}
use Rattle.bank.proofs.blocks.follow.Goals as goal

pub loop-v-init : goal.loop-v-init
loop-v-init c =
    let a = c.args in
    let t = c.timing-timing.result in
    next-found t a.voices a.m.now c.requires 0 _ a.m.now (omega arith) c.next_ended-v.ensures (spread_none (followed t) a.m.now)

pub loop-v-smaller : goal.loop-v-smaller
loop-v-smaller c =
    let l = c.loop-v in
    let h = c.loop-v-test.true in
    omega (arith, h, (found c.args.voices (l.v + 1) _ _ c.requires (omega (arith, h)) c.next_ended-v-in-loop-v.ensures).low)

pub loop-v-preserved : goal.loop-v-preserved
unfolding changed
loop-v-preserved c =
    let a = c.args in
    let l = c.loop-v in
    let t = c.timing-timing.result in
    let h = c.loop-v-test.true in
    next-found t a.voices a.m.now c.requires (l.v + 1) _ _ (omega (arith, h)) c.next_ended-v-in-loop-v.ensures
    (next-followed t a.voices a.m.now c.requires l.v l.m _ h l.invariant c.change_voice.ensures)

pub returns : goal.returns
returns c =
    let a = c.args in
    let l = c.loop-v in
    let m = a.m.now in
    let e : l.v ≡ a.voices = omega (arith, c.loop-v-test.false, l.invariant.most) in
    subst (λ (t : Timing). Spread (followed t) a.voices m l.m) c.timing-timing.ensures
    (subst (λ (n : ℕ). Spread (followed c.timing-timing.result) n m l.m) e l.invariant.done)
