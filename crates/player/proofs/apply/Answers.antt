-- `apply`: what an event makes of the bank is by the bank's own calls, and one that asks for no frames writes nothing (`quiet_levels`); frames are
-- those of a process whose output they fill (`frames_after`), and their levels its rows (`action_levels-rows`).
use mathlib.Core.Path.{sym, ap, ◌∙◌}
use mathlib.Core.List.{List}
use lib.Ieee.{Float}
use lib.ListN.{length}
use Rattle.bank.specs.Banks.{bank_of, bytes}
use Rattle.events.specs.declared.Event.{Event}
use Rattle.checking.specs.Actions.{frames_of}
use Rattle.player.specs.Playing.{put}
use Rattle.player.proofs.Doing.{frames_after, action_levels-rows}
use Rattle.player.proofs.apply.Goals as goal

pub returns-in-Frames : goal.returns-in-Frames
unfolding frames_of
returns-in-Frames c =
    let b = bank_of c.args.bank.now.arrays in
    let n = c.in-Frames.frames in
    let d = c.draw.ensures in
    let h = sym (action_levels-rows b (Event.Frames n)) in
    rw c.in-Frames.is (record {
      bank = d.bank ∙ frames_after b n;
      levels = d.levels ∙ ap (λ (xs : List Float). put (bytes xs) c.args.out.now) h;
      count = d.count ∙ ap (λ (xs : List Float). length (bytes xs)) h;
    })
