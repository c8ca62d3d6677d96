use Rattle.std.proofs.Common.{◌/◌, get_or, rules}
use Rattle.lists.proofs.FromFn.{filled_at}
use Rattle.event_ids.proofs.lanes.four_times.Goals as goal

pub returns : goal.returns
returns c i h = filled_at _ (λ j. get_or c.args.k.now (j / 4) 0) _ (λ j y q r. search rules) _ c.from_fn.ensures.items i h
