use mathlib.Core.Path.{◌≡◌}
use lib.ListN.{take}
use Rattle.sha256.specs.Sha256.{words}
use Rattle.event_ids.specs.Lanes.{schedule_at, block_of, EachLane}
use Rattle.event_ids.proofs.lanes.Schedules.load.Given as goal

abbrev pub invariant-loop-j : goal.invariant-loop-j
invariant-loop-j here = EachLane (λ l. take here.j (schedule_at l here.self.words) ≡ words here.j (block_of l here.b here.events.bytes.now))
