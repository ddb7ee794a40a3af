-- `read`: its tests are the definition's in the same order, and each return is a case of it; the two bytes of the length are its number
-- (`two_bytes`).
use native.Mathlib.Omega.{arith}
use borrow.Author.Tests.{ne_eqb}
use Rattle.events.specs.Format.{read}
use Rattle.events.proofs.Numbers.{two_bytes}
use Rattle.events.proofs.read.Goals as goal

pub returns-in_err-tag : goal.returns-in_err-tag
unfolding read
returns-in_err-tag c = grind (arith, two_bytes)

pub returns-then-len-body_length : goal.returns-then-len-body_length
unfolding read
returns-then-len-body_length c = grind (arith, two_bytes, ne_eqb)

pub returns-then-is_open-at : goal.returns-then-is_open-at
unfolding read
returns-then-is_open-at c = grind (arith, two_bytes)

pub returns-in_err-event : goal.returns-in_err-event
unfolding read
returns-in_err-event c = grind (arith, two_bytes)

pub returns : goal.returns
unfolding read
returns c = grind (arith, two_bytes)
