use native.Mathlib.Omega.{arith}
use Rattle.sha256.specs.Sha256.{padded, hash_blocks}
use Rattle.event_ids.specs.Lanes.{event_at}
use Rattle.event_ids.proofs.Events.{event_hashed, block_turn}
use Rattle.event_ids.proofs.lanes.four_states.Goals as goal

pub loop-b-init : goal.loop-b-init
unfolding hash_blocks
loop-b-init c = c.initial-st.ensures

pub loop-b-preserved : goal.loop-b-preserved
loop-b-preserved c = let s = c.args.events.now.bytes.now in
    λ l h. block_turn (padded (event_at l s) 1536) c.loop-b.b (c.loop-b.invariant l h) (c.compress_lanes.ensures l h)

pub returns : goal.returns
returns c = let four = c.args.events.now in
    λ l h. event_hashed four.bytes.now l four.long h c.loop-b.b (omega arith) (c.loop-b.invariant l h)
