-- `play_records`: the invariant holds of the opened bank at byte 0 (`begun`). A record's frames fit, since the check of the rest passes
-- (`frames-fit`), and applied it keeps the invariant (`one_on`); its end is past its beginning, so that fewer bytes are left. Where no record can be
-- read, the output holds the list's levels (`finished`).
use mathlib.Core.Path.{sym, ap, ◌∙◌}
use native.Mathlib.Omega.{arith}
use lib.Ieee.{of_bits}
use Rattle.timing.specs.declared.Timing.{Timing}
use Rattle.settings.specs.Settings.{amp}
use Rattle.bank.specs.Calls.{opening}
use Rattle.bank.specs.Banks.{bank_of, new}
use Rattle.events.proofs.Records.{read_next}
use Rattle.player.proofs.Progress.{begun, frames-fit, one_on, finished}
use Rattle.player.proofs.play_records.Goals as goal

pub loop-event-init : goal.loop-event-init
unfolding of_bits
loop-event-init c =
    let a = c.args in
    begun a.list.now a.out.now _ (c.open.ensures.bank ∙ ap (λ (t : Timing). (new (opening 0 amp t)).bank) c.new.ensures) c.requires

pub apply-to-requires : goal.apply-to-requires
apply-to-requires c =
    let l = c.loop-event in
    frames-fit _ _ l.out (bank_of l.bank.arrays) l.at l.to l.invariant _ _ (sym c.in-Ok.ensures)

pub loop-event-smaller : goal.loop-event-smaller
loop-event-smaller c = omega (arith, read_next c.args.list.now c.loop-event.at _ _ (sym c.in-Ok.ensures))

pub loop-event-preserved : goal.loop-event-preserved
loop-event-preserved c =
    let l = c.loop-event in
    let e = c.apply-to.ensures in
    one_on _ _ l.out (bank_of l.bank.arrays) l.at l.to l.invariant _ _ (sym c.in-Ok.ensures) _ _ _ e.bank e.levels e.count

pub returns : goal.returns
returns c =
    let l = c.loop-event in
    finished _ _ l.out _ l.at l.to l.invariant _ (sym c.in_default.ensures)
