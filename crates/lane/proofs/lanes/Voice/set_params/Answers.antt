-- `set_params`: what `replanned` ensures of the voice with the new settings.
use Rattle.lane.specs.Voices.{set_params, with_params}
use Rattle.lane.proofs.lanes.Voice.set_params.Goals as goal

pub returns : goal.returns
unfolding set_params with_params
returns c = c.replanned.ensures
