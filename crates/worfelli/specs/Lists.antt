-- What is known of a list before it is played.
use Rattle.std.specs.Prelude.{ℕ, ◌-◌, ◌^◌, List}
use Rattle.bank.specs.Calls.{if_accepted}
use Rattle.checking.specs.Checks as Checks
use Rattle.checking.specs.Checks.{Checked}

-- The check of a list for the longest output that there is.
abbrev pub info : List ℕ → Checked
info l = Checks.checked l (2 ^ 64 - 1)

-- Its voices and its frames; what was there if the list is refused.
unfoldable pub voices : List ℕ → ℕ → ℕ
voices l was = if_accepted (info l).refusal (info l).known.voices was

unfoldable pub frames : List ℕ → ℕ → ℕ
frames l was = if_accepted (info l).refusal (info l).frames was
