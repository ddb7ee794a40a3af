-- `after_process`: a run lies within one segment and has at least one frame (`run_bounds`); its levels are `run-levels`, and the voice after it is the one
-- after as many frames (`frames-voice`).
use Rattle.std.proofs.Common.{◌≡◌, ◌≤◌, ◌+◌, ◌-◌, ◌++◌, List, ap, ap₂, sym, ◌∙◌, length, arith}
use Rattle.std.proofs.lemmas.Slice.{take-put_mid}
use Rattle.std.specs.Prelude.{Float}
use Rattle.lane.specs.declared.lanes.Voice.{Voice}
use Rattle.envelope.specs.declared.envelopes.Envelope.{Envelope}
use Rattle.envelope.specs.Envelopes.{frames, levels}
use Rattle.envelope.proofs.Runs.{run_few, frames-voice, run-levels}
use Rattle.envelope.proofs.Cuts.{frames-cut, levels-cut}
use Rattle.envelope.proofs.envelopes.Envelope.after_process.Goals as goal

pub loop-done-preserved : goal.loop-done-preserved
loop-done-preserved c =
    let s = c.args.self in
    let l = c.loop-done in
    let run = c.run_length-run in
    let m = run.result in
    let drew = c.draw-u in
    let e : Envelope = record { voice = l.voice; timing = s.timing } in
    let few : m ≤ length l.out - l.done = rw run.ensures.length (run_few _ _) in
    let n : length drew.new.out ≡ m = omega arith in (
      omega arith,
      ap {B = Envelope} (λ (v : Voice). record { voice = v; timing = s.timing }) c.passed-voice.ensures
          ∙ sym (frames-voice m e)
          ∙ ap (frames m) l.invariant.1
          ∙ sym (frames-cut l.done m s),
      take-put_mid l.done _ l.out drew.new.out (l.done + m) (omega arith) (omega arith)
          ∙ ap₂ (λ (a b : List Float). a ++ b) l.invariant.2 (run-levels e m drew.new.out run.ensures.inside n drew.ensures.levels ∙ ap (levels m) l.invariant.1)
          ∙ sym (levels-cut l.done m s),
    )
