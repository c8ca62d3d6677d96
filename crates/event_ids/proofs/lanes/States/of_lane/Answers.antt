use mathlib.Core.Path.{refl}
use native.Mathlib.Nat.{add-zero}
use Rattle.event_ids.specs.Lanes.{column, state_at}
use Rattle.event_ids.proofs.lanes.States.of_lane.Goals as goal

pub returns : goal.returns
unfolding state_at column
returns c = rw add-zero refl
