use mathlib.Core.Path.{◌≡◌}
use Rattle.sha256.specs.Sha256.{padded, H0, hash_blocks}
use Rattle.event_ids.specs.Lanes.{state_at, event_at, EachLane}
use Rattle.event_ids.proofs.lanes.four_states.Given as goal

abbrev pub invariant-loop-b : goal.invariant-loop-b
invariant-loop-b here = EachLane (λ l. state_at l here.st.words ≡ hash_blocks H0 here.b (padded (event_at l here.events.bytes.now) 1536))
