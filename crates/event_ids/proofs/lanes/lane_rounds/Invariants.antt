use mathlib.Core.Path.{◌≡◌}
use Rattle.event_ids.specs.Lanes.{state_at, rounds_from}
use Rattle.event_ids.proofs.lanes.lane_rounds.Given as goal

abbrev pub invariant-loop-j : goal.invariant-loop-j
invariant-loop-j g here = here.r ≡ rounds_from here.t here.j (g.W.Words.of_lane here.w here.l) (state_at here.l here.st.words)
