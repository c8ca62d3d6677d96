use Rattle.std.proofs.Common.{◌≡◌, ℕ, ◌<◌, ◌≤◌}
use Rattle.sha256.specs.Sha256.{add_states}
use Rattle.event_ids.specs.Lanes.{state_at}
use Rattle.event_ids.proofs.lanes.States.add.Given as goal

abbrev pub invariant-loop-l : goal.invariant-loop-l
invariant-loop-l l =
    record {
      done : (k : ℕ) → k < l.l → state_at k l.self.words ≡ add_states (state_at k l.old.words) (state_at k l.initial.self.words);
      left : (k : ℕ) → k < 4 → l.l ≤ k → state_at k l.self.words ≡ state_at k l.initial.self.words;
    }
