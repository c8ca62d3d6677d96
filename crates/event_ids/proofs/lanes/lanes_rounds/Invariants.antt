use Rattle.std.proofs.Common.{◌≡◌, ℕ, ◌<◌, ◌≤◌}
use Rattle.event_ids.specs.Lanes.{state_at, rounds_from}
use Rattle.event_ids.proofs.lanes.lanes_rounds.Given as goal

abbrev pub invariant-loop-l : goal.invariant-loop-l
invariant-loop-l g l =
    record {
      done : (k : ℕ) → k < l.l → state_at k l.st.words ≡ rounds_from l.t 4 (g.W.Words.of_lane l.w k) (state_at k l.initial.st.words);
      left : (k : ℕ) → k < 4 → l.l ≤ k → state_at k l.st.words ≡ state_at k l.initial.st.words;
    }
