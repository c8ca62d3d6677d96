use Rattle.sha256.specs.Sha256.{next_word}
use Rattle.event_ids.proofs.lanes.Schedules.next.Goals as goal

pub returns-clause-lane : goal.returns-clause-lane
unfolding next_word
returns-clause-lane c = rw (← c.word-3.ensures, ← c.word-2.ensures, ← c.word.ensures, ← c.word-word.ensures, ← c.schedule_sum-sum.ensures) c.put.ensures.lane
