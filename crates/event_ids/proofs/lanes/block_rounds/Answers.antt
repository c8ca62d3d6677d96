use mathlib.Core.Path.{ap, ◌∙◌}
use mathlib.Core.List.{List}
use Prim.Native.Nat.{ℕ}
use Rattle.sha256.specs.Sha256.{rounds}
use Rattle.event_ids.specs.Lanes.{state_at, block_of, padded_block}
use Rattle.event_ids.proofs.Compression.{rounds-all}
use Rattle.event_ids.proofs.Events.{event-block, block-rounds}
use Rattle.event_ids.proofs.lanes.block_rounds.Goals as goal

pub returns-in-Some : goal.returns-in-Some
returns-in-Some c = λ l h. let before = state_at l c.args.st.now.words in
    rounds-all c.in-Some.shared before (c.rounds_on.ensures l h)
    ∙ ap (λ (w : List ℕ). rounds 64 w before) (c.in-Some.ensures l h)

pub returns-in_default : goal.returns-in_default
returns-in_default c = let s = c.args.events.now.bytes.now in
    let b = c.args.b in
    λ l h. let end = block-rounds (padded_block l b s) (block_of l b s) (state_at l c.args.st.now.words) (c.all_rounds.ensures l h) in
    end (c.load.ensures l h) (event-block s l c.args.events.now.long h b c.in_default.ensures)
