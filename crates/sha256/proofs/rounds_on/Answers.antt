use Rattle.std.proofs.Common.{◌≡◌, ◌-◌, ◌+◌, arith}
use Rattle.sha256.proofs.Rounds.{at_hand_later}
use Rattle.sha256.proofs.rounds_on.Goals as goal

pub loop-t-preserved : goal.loop-t-preserved
loop-t-preserved g c = let a = c.args in
    let inv = c.loop-t.invariant in
    let t = c.loop-t.t in
    let eight : t + 4 + 4 ≡ t + 8 = omega arith in (
      omega arith,
      omega arith,
      omega arith,
      λ x z held e.
          rw eight at
          (c.four_rounds-s-in-loop-t.ensures x z (at_hand_later g.row.N x a.w.now a.from (64 - a.from) (t + 4) 4 (omega arith) (omega arith) held)
          (c.four_rounds-s.ensures x z (at_hand_later g.row.N x a.w.now a.from (64 - a.from) t 4 inv.0 (omega arith) held) (inv.3 x z held e))),
    )
