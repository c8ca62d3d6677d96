use Rattle.std.proofs.Common.{◌≡◌, ℕ, ◌<◌}
use Rattle.sha256.specs.Sha256.{H0}
use Rattle.event_ids.specs.Lanes.{state_at}
use Rattle.event_ids.proofs.lanes.States.initial.Given as goal

abbrev pub invariant-loop-l : goal.invariant-loop-l
invariant-loop-l l = (k : ℕ) → k < l.l → state_at k l.states.words ≡ H0
