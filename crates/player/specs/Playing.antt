-- The levels that a list is rendered to, and what the console's host gets of it, in bytes.
use Rattle.std.specs.Prelude.{ℕ, zero, suc, List, [], ◌∷◌, ◌++◌, ℤ, pos, neg_ℤ, length, drop, Float}
use Rattle.numbers.specs.Constants as Constants
use Rattle.timing.specs.Clock as Clock
use Rattle.settings.specs.Settings.{amp}
use Rattle.bank.specs.Calls.{opening, if_accepted}
use Rattle.bank.specs.Banks as Banks
use Rattle.bank.specs.Banks.{Bank, bytes}
use Rattle.bank.specs.Replies as Replies
use Rattle.bank.specs.Replies.{Reply}
use Rattle.events.specs.declared.Event.{Event}
use Rattle.events.specs.Format as Format
use Rattle.events.specs.Format.{Parsed}
use Rattle.checking.specs.Actions.{Action, opens, calls, action}
use Rattle.checking.specs.Checks as Checks

-- ---- events

abbrev pub if_record : Parsed → (Event → ℕ → List Event) → List Event
if_record (Parsed.Record e next) f = f e next
if_record (Parsed.Refused n) f = []

-- The events of the records from byte `at` on, n at most, up to a place where no record can be read: in an accepted list, its end.
abbrev pub events_from : ℕ → List ℕ → ℕ → List Event
events_from zero l at = []
events_from (suc n) l at = if_record (Format.read l at) (λ e next. e ∷ events_from n l next)

-- The list's. It has fewer records than bytes.
abbrev pub events : List ℕ → List Event
events l = events_from (length l) l 0

-- ---- levels

-- The bank before it is opened: the one that stands beside a refused fresh call.
abbrev pub unopened : Bank
unopened = (Banks.new (opening 0 amp (Clock.new Constants.zero))).bank

-- The bank after an event, by the bank's own calls.
unfoldable pub after : Bank → Action → Bank
after b (opens o) = (Banks.new o).bank
after b (calls c) = (Banks.answer b c).bank

-- The levels of a reply.
unfoldable pub levels : Reply → List Float
levels (Reply.refused n) = []
levels Reply.done = []
levels (Reply.wrote xs) = xs
levels (Reply.params p) = []
levels (Reply.stage s) = []
levels (Reply.level x) = []
levels (Reply.is_idle x) = []
levels (Reply.count n) = []

-- The levels of one action.
unfoldable pub action_levels : Bank → Action → List Float
action_levels b (opens o) = []
action_levels b (calls c) = levels (Replies.reply b c)

-- The levels of events that are rendered one after the other.
abbrev pub rendered : Bank → List Event → List Float
rendered b [] = []
rendered b (e ∷ es) = let d = action (Banks.known b) e in action_levels b d ++ rendered (after b d) es

-- ---- bytes

-- The bytes of a list's levels.
abbrev pub level_bytes : List ℕ → List ℕ
level_bytes l = bytes (rendered unopened (events l))

-- An output into which bytes were put from its first on: what it held past them is kept.
abbrev pub put : List ℕ → List ℕ → List ℕ
put bs out = bs ++ drop (length bs) out

-- ---- what the host gets

-- Frames written, or minus the refusal's number.
unfoldable pub result : List ℕ → ℕ → ℤ
result l outLength = let c = Checks.checked l outLength in if_accepted c.refusal (pos c.frames) (neg_ℤ (pos c.refusal))

-- The output: the levels' bytes from its first byte on, then what it held past them; all that it held if the list is refused.
unfoldable pub output : List ℕ → List ℕ → List ℕ
output l out = if_accepted (Checks.checked l (length out)).refusal (put (level_bytes l) out) out

-- The refused record's first byte, or the list's length if nothing is refused.
unfoldable pub refused_at : List ℕ → ℕ → ℕ
refused_at l outLength = let c = Checks.checked l outLength in if_accepted c.refusal (length l) c.at
