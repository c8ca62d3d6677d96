use Rattle.sha256.specs.Sha256.{one_round}
use Rattle.sha256.proofs.round.Goals as goal

pub returns : goal.returns
unfolding one_round
returns c = cc
