-- The codes of what has no number, where a host or an event list gives numbers. Any other code names nothing.
use Rattle.std.specs.Prelude.{ℕ, zero, suc, Bool, true, false, Result, Ok, Err}
use Rattle.timing.specs.declared.UnnamedCode.{UnnamedCode}
use Rattle.settings.specs.declared.settings.StealRestart.{StealRestart}
use Rattle.settings.specs.declared.settings.StealRestart.TheVariants.{CurrentLevel, StartLevel}
use Rattle.settings.specs.declared.settings.Trigger.{Trigger}
use Rattle.settings.specs.declared.settings.Trigger.TheVariants.{New, Retrigger, Legato}

-- 0 current, 1 start.
abbrev pub restart : ℕ → Result StealRestart UnnamedCode
restart zero = Ok CurrentLevel
restart (suc zero) = Ok StartLevel
restart (suc (suc n)) = Err (record {})

-- 0 new, 1 retrigger, 2 legato.
abbrev pub trigger : ℕ → Result Trigger UnnamedCode
trigger zero = Ok New
trigger (suc zero) = Ok Retrigger
trigger (suc (suc zero)) = Ok Legato
trigger (suc (suc (suc n))) = Err (record {})

-- 0 not set, 1 set.
abbrev pub flag : ℕ → Result Bool UnnamedCode
flag zero = Ok false
flag (suc zero) = Ok true
flag (suc (suc n)) = Err (record {})
