use Rattle.sha256.specs.Constants.{K}
use Rattle.sha256.proofs.Rolling.{rolling_at}
use Rattle.sha256.proofs.round_and_word.Goals as goal

pub returns : goal.returns
unfolding K
returns c x z grown before =
    let a = c.args in
    rolling_at x z grown a.t a.i c.requires.0 c.requires.1 c.requires.2 a.w.now a.s before _ c.schedule_sum.ensures _ c.round.ensures
