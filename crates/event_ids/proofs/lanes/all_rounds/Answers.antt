use Rattle.event_ids.specs.Lanes.{schedule_at, block_at, state_at}
use Rattle.event_ids.proofs.Compression.{rounds-whole}
use Rattle.event_ids.proofs.lanes.all_rounds.Goals as goal

pub returns : goal.returns
returns c =
    let first = c.first_rounds in
    let made = first.ensures in
    let a = c.args in
    λ l h. let end = rounds-whole (block_at l a.w.now.words) (schedule_at l first.new.w.words) (state_at l a.st.now.words) in
    end (made.schedules l h) (made.states l h) (c.rounds_on.ensures l h)
