-- `refused_at`: the place at which the check ends is the definition's (`place-refused_at`).
use mathlib.Core.Path.{ap, ◌∙◌}
use Rattle.checking.specs.Checks.{Checked}
use Rattle.player.proofs.Written.{place-refused_at}
use Rattle.player.proofs.refused_at.Goals as goal

pub returns : goal.returns
returns c =
    let a = c.args in
    ap (λ (x : Checked). x.at) c.check.ensures ∙ place-refused_at a.list.now a.out_len
