-- `release`: it is `with` on one voice, and what that ensures is the bank's answer (`of_one`), since the bank's definition changes the voice in the
-- same way.
use mathlib.Core.Path.{refl}
use Rattle.memory.specs.Memory.{timing_at}
use Rattle.bank.specs.declared.changes.Change.TheVariants.{Release}
use Rattle.bank.specs.Calls.{Call, refusal}
use Rattle.bank.specs.Banks.{bank_of, after_accepted}
use Rattle.bank.specs.Parts.{changed}
use Rattle.bank.proofs.Answers.{of_one}
use Rattle.bank.proofs.banks.Bank.release.Goals as goal

pub returns : goal.returns
unfolding refusal after_accepted changed bank_of
returns c =
    let a = c.args in
    let r = of_one (Call.release a.voice) a.self.now.arrays a.voice (changed (timing_at a.self.now.arrays.bends) (Release)) refl refl _ _ c.with.ensures
    in
    record { refusal = r.0; bank = r.1.0; kept = r.1.1 }
