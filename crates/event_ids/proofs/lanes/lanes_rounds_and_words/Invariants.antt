use Rattle.std.proofs.Common.{◌≡◌, ℕ, ◌<◌, ◌≤◌}
use Rattle.event_ids.specs.Lanes.{lane_at, steps}
use Rattle.event_ids.proofs.lanes.lanes_rounds_and_words.Given as goal

abbrev pub invariant-loop-l : goal.invariant-loop-l
invariant-loop-l l =
    record {
      done : (k : ℕ) → k < l.l → lane_at k l.w.words l.st.words ≡ steps l.t 4 (lane_at k l.initial.w.words l.initial.st.words);
      left : (k : ℕ) → k < 4 → l.l ≤ k → lane_at k l.w.words l.st.words ≡ lane_at k l.initial.w.words l.initial.st.words;
    }
