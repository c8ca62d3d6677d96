use Rattle.std.proofs.Common.{◌≡◌, ℕ, ◌<◌, ◌≤◌}
use Rattle.std.proofs.Math.ListN.{set}
use Rattle.sha256.specs.Sha256.{word_at}
use Rattle.event_ids.specs.Lanes.{schedule_at, block_of}
use Rattle.event_ids.proofs.lanes.Schedules.load_row.Given as goal

abbrev pub invariant-loop-l : goal.invariant-loop-l
invariant-loop-l l =
    record {
      done : (k : ℕ) → k < l.l → schedule_at k l.self.words ≡ set (schedule_at k l.initial.self.words) l.j (word_at (block_of k l.b l.events.bytes.now) l.j);
      left : (k : ℕ) → k < 4 → l.l ≤ k → schedule_at k l.self.words ≡ schedule_at k l.initial.self.words;
    }
