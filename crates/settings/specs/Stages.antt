-- The stages and their order.
use Rattle.std.specs.Prelude.{ℕ, Bool, true, false}
use Rattle.settings.specs.declared.stages.Stage.{Stage}
use Rattle.settings.specs.declared.stages.Stage.TheVariants.{Idle, Delay, Attack, Hold, Decay, Sustain, Release}

-- What follows a stage whose time is over; Idle and Sustain, which have none, follow themselves.
abbrev pub next : Stage → Stage
next Idle = Idle
next Delay = Attack
next Attack = Hold
next Hold = Decay
next Decay = Sustain
next Sustain = Sustain
next Release = Idle

-- Whether it is untimed: its level stays until a call. Hold is not: it stays at 1 for its time.
abbrev pub is_untimed : Stage → Bool
is_untimed Idle = true
is_untimed Delay = false
is_untimed Attack = false
is_untimed Hold = false
is_untimed Decay = false
is_untimed Sustain = true
is_untimed Release = false

-- How many timed stages there are from it on, itself counted, up to an untimed one.
abbrev pub timed_stages : Stage → ℕ
timed_stages Idle = 0
timed_stages Delay = 4
timed_stages Attack = 3
timed_stages Hold = 2
timed_stages Decay = 1
timed_stages Sustain = 0
timed_stages Release = 1

abbrev pub is_idle : Stage → Bool
is_idle Idle = true
is_idle Delay = false
is_idle Attack = false
is_idle Hold = false
is_idle Decay = false
is_idle Sustain = false
is_idle Release = false

-- Whether a release changes nothing: it has begun already, or there is no note to end.
abbrev pub ignores_release : Stage → Bool
ignores_release Idle = true
ignores_release Delay = false
ignores_release Attack = false
ignores_release Hold = false
ignores_release Decay = false
ignores_release Sustain = false
ignores_release Release = true

-- Whether Sustain is still to come.
abbrev pub is_before_sustain : Stage → Bool
is_before_sustain Idle = false
is_before_sustain Delay = true
is_before_sustain Attack = true
is_before_sustain Hold = true
is_before_sustain Decay = true
is_before_sustain Sustain = false
is_before_sustain Release = false
