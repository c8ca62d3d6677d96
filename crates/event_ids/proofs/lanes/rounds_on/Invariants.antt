use mathlib.Core.Path.{◌≡◌}
use Prim.Native.Nat.{◌-◌, ◌%◌, ◌≤◌}
use Rattle.event_ids.specs.Lanes.{state_at, rounds_from, EachLane}
use Rattle.event_ids.proofs.lanes.rounds_on.Given as goal

abbrev pub invariant-loop-t : goal.invariant-loop-t
invariant-loop-t g here = (here.from ≤ here.t) × (here.t ≤ 64) × (here.t % 4 ≡ 0)
    × EachLane (λ l. state_at l here.st.words ≡ rounds_from here.from (here.t - here.from) (g.W.Words.of_lane here.w l) (state_at l here.initial.st.words))

abbrev pub decreases-loop-t : goal.decreases-loop-t
decreases-loop-t g l = 64 - l.t
