use native.Mathlib.Omega.{arith}
use lib.ListN.{length-set}
use Rattle.cords.proofs.LengthBytes.{turn}
use borrow.Author.Rules.{rules}
use Rattle.cords.proofs.to_bytes.Goals as goal

pub loop-k-preserved : goal.loop-k-preserved
loop-k-preserved c = let a = c.args in (
  simp length-set c.loop-k.invariant.0,
  turn a.lengths.now c.loop-k.out c.loop-k.k _ _ (omega arith) (omega arith) c.loop-k.invariant.1 (search rules) (search rules),
)
