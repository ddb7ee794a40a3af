-- `draw_frames`: run after run. Invariant (`Going`): from the arrays with their spare lanes cleared, `done` frames have passed, and their rows are in
-- the output, which is otherwise as it was. Measure: the frames left.
use Prim.Native.Nat.{◌-◌, ◌≤◌}
use Rattle.bank.specs.Frames.{Going}
use Rattle.bank.proofs.blocks.draw_frames.Given as goal

abbrev pub invariant-loop-done : goal.invariant-loop-done
invariant-loop-done g l = (l.done ≤ l.frames) × Going g.P.Place.past_end g.row.N g.P.Place.cell l.voices l.initial.m l.initial.out l.done l.m l.out

abbrev pub decreases-loop-done : goal.decreases-loop-done
decreases-loop-done g l = l.frames - l.done
