use Rattle.event_ids.specs.Lanes.{state_at, rounds_from}
use Rattle.event_ids.proofs.Rounds.{round_more}
use Rattle.event_ids.proofs.lanes.lane_rounds.Goals as goal

pub loop-j-init : goal.loop-j-init
unfolding rounds_from
loop-j-init g c = c.of_lane-r.ensures

pub loop-j-preserved : goal.loop-j-preserved
loop-j-preserved g c = let a = c.args in
    round_more a.t c.loop-j.j (g.W.Words.of_lane a.w.now a.l) (state_at a.l a.st.now.words) c.loop-j.invariant c.round_at-r.ensures
