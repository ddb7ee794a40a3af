-- Saturating counts: a sum past the largest u64 is the largest u64. Differences are the natural numbers' own, which are truncated: 0 where they
-- would be below it. No envelope that calls from a fresh one left comes near either edge (envelope/proofs/Reachable.antt).
use Rattle.std.specs.Prelude.{ℕ, min}

abbrev pub saturated : ℕ → ℕ
saturated n = min n 18446744073709551615
