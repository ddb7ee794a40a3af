-- A host's list of calls is a list of demand 3: the calls whose codes are named, in their order, the others being as if they had not been made. By
-- induction over the list; a call with an unnamed code leaves the bank.
use mathlib.Core.Path.{◌≡◌, refl, ap, ◌∙◌}
use mathlib.Core.Bool.{Bool, true, false}
use mathlib.Core.List.{List, [], ◌∷◌}
use Rattle.bank.specs.Calls.{Opening, Call}
use Rattle.bank.specs.Banks as Banks
use Rattle.bank.specs.Banks.{Bank}
use Rattle.histories.specs.Demand.{run, bank_after}
use Rattle.histories.proofs.Demand.{demand3}
use Rattle.worfelli.specs.Live.{HostCall, answer, after, named_only, LiveList}

abbrev step : Bank → Call → Bank
step b c = (Banks.answer b c).bank

one_on : (b : Bank) (t : Bool) (c : Call) (xs : List HostCall) → ((b : Bank) → after b xs ≡ run step b (named_only xs))
    → after b (record { named = t; call = c } ∷ xs) ≡ run step b (named_only (record { named = t; call = c } ∷ xs))
unfolding answer
one_on b true c xs ih = ih (step b c)
one_on b false c xs ih = ih b

runs : (xs : List HostCall) (b : Bank) → after b xs ≡ run step b (named_only xs)
runs [] b = refl
runs (x ∷ xs) b = one_on b x.named x.call xs (λ b. runs xs b)

pub live_list : (o : Opening) (xs : List HostCall) → LiveList o xs
unfolding bank_after
live_list o xs =
    let e = runs xs (Banks.new o).bank in
    record {
      bank = e;
      envelope = λ v h. ap (λ (b : Bank). Banks.envelope b v) e ∙ (demand3.one o (named_only xs)).envelope v h;
    }
