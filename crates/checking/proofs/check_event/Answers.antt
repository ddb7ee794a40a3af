-- `check_event`: frames are a process whose output they fill, so whole frames, which are not refused (`whole`).
use mathlib.Core.Path.{sym}
use Rattle.bank.proofs.Accepted.{whole}
use Rattle.checking.specs.Actions.{action, own_refusal}
use Rattle.checking.proofs.check_event.Goals as goal

pub returns-in-Frames : goal.returns-in-Frames
unfolding action own_refusal
returns-in-Frames c = simp c.in-Frames.is (sym (whole c.args.known _).0)
