-- A live bank's calls over C: the bank's own, with 10 for a code that names nothing. It is tested before the call's own numbers, as in lists.
use Rattle.std.specs.Prelude.{ℕ, ◌<◌, Bool, cond, List, [], ◌∷◌, ◌≡◌, Float}
use Rattle.numbers.specs.Constants as Constants
use Rattle.timing.specs.declared.Timing.{Timing}
use Rattle.timing.specs.Clock as Clock
use Rattle.settings.specs.Settings.{amp}
use Rattle.bank.specs.Calls.{Opening, opening, Call}
use Rattle.bank.specs.Banks as Banks
use Rattle.bank.specs.Banks.{Bank, Answer}
use Rattle.histories.specs.Demand.{run, bank_after, history_of, envelope_of, voices_of}

abbrev pub timing : Float → Float → Float → Timing
timing rate tempo scale = record { sample_rate = rate; tempo = tempo; scale = scale }

-- What a call answers, whose codes are all named or not.
unfoldable pub answer : Bool → Bank → Call → Answer
answer named b c = cond named (Banks.answer b c) (record { refusal = 10; bank = b })

-- The bank that a fresh call asks for: where a code names nothing, the one that stands beside every refused fresh call.
abbrev pub asked : Bool → Opening → Opening
asked named o = cond named o (opening 0 amp (Clock.new Constants.zero))

unfoldable pub opening_refusal : Bool → Opening → ℕ
opening_refusal named o = cond named (Banks.new o).refusal 10

-- ---- a host's list of calls

-- A call of the bank, and whether each of its codes is named.
pub record HostCall : Type 0 where
  pub named : Bool
  pub call : Call

-- The bank after them, each getting it as the one before left it.
abbrev pub after : Bank → List HostCall → Bank
after b xs = run (λ b x. (answer x.named b x.call).bank) b xs

-- Those whose codes are named.
abbrev pub named_only : List HostCall → List Call
named_only [] = []
named_only (x ∷ xs) = cond x.named (x.call ∷ named_only xs) (named_only xs)

-- What a host's list leaves: the bank is the one of demand 3 after the named calls, so that each voice is in the state of the envelope of its history.
pub record LiveList (o : Opening) (xs : List HostCall) : Type 0 where
  pub bank : after (Banks.new o).bank xs ≡ bank_after o (named_only xs)
  pub envelope : (v : ℕ) → v < voices_of o → Banks.envelope (after (Banks.new o).bank xs) v ≡ envelope_of (history_of o (named_only xs) v)
