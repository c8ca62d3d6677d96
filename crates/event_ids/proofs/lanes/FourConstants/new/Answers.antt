use Rattle.sha256.specs.Constants.{K}
use Rattle.event_ids.proofs.lanes.FourConstants.new.Goals as goal

pub invariant_of-result : goal.invariant_of-result
unfolding K
invariant_of-result c = record { four_times = c.four_times.ensures }
