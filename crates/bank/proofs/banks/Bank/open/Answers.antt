-- `open`: refused, the arrays hold the bank of no voices (`none-opened`); else every voice was filled (`voices-opened`), for which there is room,
-- since an accepted bank has at most 64 (`opened_few`).
use mathlib.Core.Path.{◌≡◌, refl, sym}
use lib.Ieee.{of_bits}
use Rattle.settings.specs.Settings.{amp}
use Rattle.settings.proofs.Propagated.{number-some}
use Rattle.bank.specs.Calls.{opening, opening_refusal}
use Rattle.bank.proofs.Accepted.{opened_few}
use Rattle.bank.proofs.Representation.{none-opened, voices-opened}
use Rattle.bank.proofs.Answers.{opening-refused, opening-accepted}
use Rattle.bank.proofs.banks.Bank.open.Goals as goal

pub returns-in-Err : goal.returns-in-Err
unfolding of_bits
returns-in-Err c =
    let a = c.args in
    let r = opening-refused (opening a.voices a.params a.timing) a.self.now.arrays _ _ (number-some c.in-Err.refusal) c.in-Err.ensures
    (none-opened 0 c.new.result a.self.now.arrays _ _ c.put_timing.ensures c.put_voices.ensures refl amp _ c.new.ensures) in
    record { refusal = r.0; bank = r.1.0; kept = r.1.1 }

pub fill-requires : goal.fill-requires
fill-requires c = let a = c.args in opened_few (opening a.voices a.params a.timing) (sym c.in_default.ensures)

pub returns : goal.returns
returns c =
    let a = c.args in
    let o = opening a.voices a.params a.timing in
    let e : opening_refusal o ≡ 0 = sym c.in_default.ensures in
    let r = opening-accepted o a.self.now.arrays _ e
    (voices-opened a.voices a.timing a.self.now.arrays _ _ c.put_timing-2.ensures c.put_voices-2.ensures (opened_few o e) a.params _ _ c.new-2.ensures
    c.fill.ensures)
    in
    record { refusal = r.0; bank = r.1.0; kept = r.1.1 }
