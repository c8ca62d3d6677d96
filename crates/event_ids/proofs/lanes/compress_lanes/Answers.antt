use Rattle.event_ids.specs.Lanes.{state_at, padded_block}
use Rattle.event_ids.proofs.Events.{compressed}
use Rattle.event_ids.proofs.lanes.compress_lanes.Goals as goal

pub returns : goal.returns
returns c = let a = c.args in
    λ l h. compressed (state_at l a.st.now.words) (padded_block l a.b a.events.now.bytes.now) (c.block_rounds.ensures l h) (c.add.ensures l h)
