-- The codes of units, where a host or an event list gives numbers: 0 milliseconds, 1 beats. Any other code names nothing.
use Rattle.std.specs.Prelude.{ℕ, zero, suc, Result, Ok, Err}
use Rattle.timing.specs.declared.TimeUnit.{TimeUnit}
use Rattle.timing.specs.declared.TimeUnit.TheVariants.{Milliseconds, Tempo}
use Rattle.timing.specs.declared.UnnamedCode.{UnnamedCode}

abbrev pub unit : ℕ → Result TimeUnit UnnamedCode
unit zero = Ok Milliseconds
unit (suc zero) = Ok Tempo
unit (suc (suc n)) = Err (record {})
