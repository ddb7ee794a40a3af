-- Settings as a host passes them: eleven numbers in `EnvelopeParams`' order, and document 01's codes for what has no number.
use Rattle.std.specs.Prelude.{ℕ, Bool, ◌&&◌, List, [], ◌∷◌, ltb, Float, get_or}
use Rattle.settings.specs.declared.settings.EnvelopeParams.{EnvelopeParams}
use Rattle.memory.specs.Memory.{params_of, unit_of, unit_code, flag_of, flag_code, restart_of, restart_code}

-- The codes: unit (0 milliseconds, 1 beats), legato inverted (0, 1), restart (0 current, 1 start).
abbrev pub code : List ℕ → ℕ → ℕ
code l i = get_or l i 0

-- Whether each of them names something.
unfoldable pub named : List ℕ → Bool
named codes = ltb (code codes 0) 2 && (ltb (code codes 1) 2 && ltb (code codes 2) 2)

unfoldable pub params : List Float → List ℕ → EnvelopeParams
params numbers codes = params_of numbers (unit_of (code codes 0)) (flag_of (code codes 1)) (restart_of (code codes 2))

-- The numbers and the codes of settings.
abbrev pub numbers_of : EnvelopeParams → List Float
numbers_of p =
    p.delay ∷ p.attack ∷ p.hold ∷ p.decay ∷ p.sustain ∷ p.release ∷ p.attack_curve ∷ p.decay_curve ∷ p.release_curve ∷ p.start ∷ p.end
    ∷ []

abbrev pub codes_of : EnvelopeParams → List ℕ
codes_of p = unit_code p.unit ∷ flag_code p.legato_inverted ∷ restart_code p.steal_restart ∷ []
