-- m + n frames are m frames and then n, for the envelope after them and for the levels that they hand out: so the cut into blocks makes no
-- difference. By induction on m.
use mathlib.Core.Path.{◌≡◌, ap}
use mathlib.Core.List.{List, ◌∷◌, ◌++◌}
use Prim.Native.Nat.{ℕ, zero, suc, ◌+◌}
use native.Mathlib.Nat.{zero-add, suc-add}
use lib.Ieee.{Float}
use Rattle.envelope.specs.declared.envelopes.Envelope.{Envelope}
use Rattle.envelope.specs.Envelopes.{level, frame, frames, levels}

pub frames-cut : (m n : ℕ) (e : Envelope) → frames (m + n) e ≡ frames n (frames m e)
frames-cut zero n e = rw zero-add
frames-cut (suc m) n e = rw suc-add (frames-cut m n (frame e))

pub levels-cut : (m n : ℕ) (e : Envelope) → levels (m + n) e ≡ levels m e ++ levels n (frames m e)
levels-cut zero n e = rw zero-add
levels-cut (suc m) n e = rw suc-add (ap (λ (l : List Float). level e ∷ l) (levels-cut m n (frame e)))
