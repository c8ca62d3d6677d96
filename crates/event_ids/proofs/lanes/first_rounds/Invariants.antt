use mathlib.Core.Path.{◌≡◌}
use Prim.Native.Nat.{◌-◌, ◌%◌, ◌≤◌}
use Rattle.event_ids.specs.Lanes.{lane_at, steps, EachLane}
use Rattle.event_ids.proofs.lanes.first_rounds.Given as goal

abbrev pub invariant-loop-t : goal.invariant-loop-t
invariant-loop-t here = (here.t ≤ 48) × (here.t % 4 ≡ 0) × EachLane (λ l. lane_at l here.w.words here.st.words ≡ steps 0 here.t (lane_at l here.initial.w.words here.initial.st.words))

abbrev pub decreases-loop-t : goal.decreases-loop-t
decreases-loop-t l = 48 - l.t
