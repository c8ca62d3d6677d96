use mathlib.Core.Path.{refl, ap, ◌∙◌}
use Rattle.sha256.specs.declared.State.{State}
use Rattle.event_ids.specs.Lanes.{schedule_at, lane_at, steps}
use Rattle.event_ids.proofs.Rounds.{step_more}
use Rattle.event_ids.proofs.lanes.lane_rounds_and_words.Goals as goal

pub loop-j-init : goal.loop-j-init
unfolding steps
loop-j-init c = let words = schedule_at c.args.l c.args.w.now.words in
    record { lane = ap (λ (s : State). record { words = words; state = s }) c.of_lane-s.ensures; others = λ k h n. refl }

pub loop-j-preserved : goal.loop-j-preserved
loop-j-preserved c = let a = c.args in
    let before = c.loop-j.invariant in
    let r = c.round_and_word-s.ensures in
    record {
      lane = step_more a.t c.loop-j.j _ (lane_at a.l a.w.now.words a.st.now.words) before.lane r.word r.round;
      others = λ k h n. r.others k h n ∙ before.others k h n;
    }
