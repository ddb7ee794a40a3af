-- `after_process`: a block of levels, run by run. Invariant: what is written are the levels of the first `done` frames, and the voice is the one
-- after as many. Measure: the levels left to write.
use Rattle.std.proofs.Common.{◌≡◌, ◌≤◌, ◌-◌, length, take}
use Rattle.envelope.specs.Envelopes.{frames, levels}
use Rattle.envelope.proofs.envelopes.Envelope.after_process.Given as goal

abbrev pub invariant-loop-done : goal.invariant-loop-done
invariant-loop-done l =
    (l.done ≤ length l.initial.out)
    × (record { voice = l.voice; timing = l.self.timing } ≡ frames l.done l.self)
    × (take l.done l.out ≡ levels l.done l.self)

abbrev pub decreases-loop-done : goal.decreases-loop-done
decreases-loop-done l = length l.initial.out - l.done
