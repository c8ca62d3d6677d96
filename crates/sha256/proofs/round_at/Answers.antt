use Rattle.sha256.specs.Constants.{K}
use Rattle.sha256.proofs.round_at.Goals as goal

pub returns : goal.returns
unfolding K
returns g c = c.round.ensures
