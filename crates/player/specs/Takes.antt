-- A list as a bank's calls: what ties the levels that a host gets to demand 3.
use Rattle.std.specs.Prelude.{◌≡◌, List, [], ◌∷◌, ◌++◌, Float}
use Rattle.numbers.specs.Constants as Constants
use Rattle.timing.specs.Clock as Clock
use Rattle.settings.specs.Settings.{amp}
use Rattle.bank.specs.declared.known.Known.{Known}
use Rattle.bank.specs.Calls.{Opening, opening, Call, known_of, learned}
use Rattle.bank.specs.Replies.{Reply}
use Rattle.histories.specs.Demand.{fresh_histories, expected_replies}
use Rattle.events.specs.declared.Event.{Event}
use Rattle.checking.specs.Actions.{Action, opens, calls, action}
use Rattle.checking.specs.Checks.{start}
use Rattle.player.specs.Playing.{unopened, levels, rendered}

-- The fresh call of a list's first record, and the records after it.
abbrev pub opened_by : Action → Opening
opened_by (opens o) = o
opened_by (calls c) = opening 0 amp (Clock.new Constants.zero)

abbrev pub opening_of : List Event → Opening
opening_of [] = opening 0 amp (Clock.new Constants.zero)
opening_of (e ∷ es) = opened_by (action start.known e)

abbrev pub later_of : List Event → List Event
later_of [] = []
later_of (e ∷ es) = es

-- Their calls, after what is known of the bank.
abbrev pub if_call : Action → (Call → List Call) → List Call
if_call (opens o) f = []
if_call (calls c) f = f c

abbrev pub calls_of : Known → List Event → List Call
calls_of k [] = []
calls_of k (e ∷ es) = if_call (action k e) (λ c. c ∷ calls_of (learned k c) es)

-- The levels of replies, one after the other.
abbrev pub levels_of : List Reply → List Float
levels_of [] = []
levels_of (r ∷ rs) = levels r ++ levels_of rs

-- An accepted list's events are rendered to what the envelopes of the voices' histories hand out: the levels that demand 3 expects of its calls.
abbrev pub AsExpected : List Event → Type 0
AsExpected es =
    let o = opening_of es in
    rendered unopened es ≡ levels_of (expected_replies (fresh_histories o) (calls_of (known_of o) (later_of es)))
