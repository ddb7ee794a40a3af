-- `write_levels` is safe. Invariant: each part has at most 1,024 levels.
use Rattle.std.proofs.Common.{◌≡◌}
use Rattle.replay.proofs.replies.write_levels.Given as goal

abbrev pub invariant-loop-some : goal.invariant-loop-some
invariant-loop-some g l = l.some-iterator.size ≡ 1024
