use Rattle.sha256.specs.Sha256.{add_states}
use Rattle.sha256.proofs.add_states.Goals as goal

pub returns : goal.returns
unfolding add_states
returns c = cc
