use Rattle.std.proofs.Common.{◌+◌, refl, arith}
use Rattle.sha256.proofs.Rounds.{held_turn}
use Rattle.sha256.proofs.four_rounds.Goals as goal

pub loop-j-preserved : goal.loop-j-preserved
loop-j-preserved g c x z held e = let t = c.args.t in
    let j = c.loop-j.j in
    held_turn g.row.N x c.args.w.now z t 4 j (t + j) (t + (j + 1)) held (omega arith) refl (omega arith) (c.loop-j.invariant x z held e)
    c.round_at-s.ensures
