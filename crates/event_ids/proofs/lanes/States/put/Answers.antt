use mathlib.Core.Path.{◌≡◌}
use lib.ListN.{length}
use borrow.Author.Rules.{rules}
use Rattle.event_ids.proofs.Columns.{stored_at, state_stored, others_stored}
use Rattle.event_ids.proofs.lanes.States.put.Goals as goal

pub returns : goal.returns
unfolding stored_at
returns c = let l = c.args.l in
    let s = c.args.s in
    let x = c.args.self.now.words in
    let n : length x ≡ 32 = search rules in
    record { lane = state_stored l s x c.requires n; other_states = others_stored l s x c.requires n }
