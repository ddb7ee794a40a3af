-- u after m + n samples is u after n, from u after m on; so one sample more is one step more (`u_next`, which loops that draw use). By induction on
-- m.
use mathlib.Core.Path.{◌≡◌, sym}
use Prim.Native.Nat.{ℕ, zero, suc, ◌+◌}
use native.Mathlib.Nat.{zero-add, suc-add}
use lib.Ieee.{Float}
use Rattle.curve.specs.Segments.{next_u, u_after}

u_after-add : (m n : ℕ) (u r d : Float) → u_after (m + n) u r d ≡ u_after n (u_after m u r d) r d
u_after-add zero n u r d = rw zero-add
u_after-add (suc m) n u r d = rw suc-add (u_after-add m n (next_u u r d) r d)

-- A step after n samples makes n + 1.
pub u_next : (n : ℕ) (u r d : Float) → next_u (u_after n u r d) r d ≡ u_after (n + 1) u r d
u_next n u r d = sym (u_after-add n 1 u r d)
