use mathlib.Core.Path.{◌≡◌}
use Prim.Native.Nat.{◌*◌}
use lib.ListN.{length, take}
use Rattle.cords.specs.DocumentTable.{length_bytes}
use Rattle.cords.proofs.to_bytes.Given as goal

abbrev pub invariant-loop-k : goal.invariant-loop-k
invariant-loop-k l = (length l.out ≡ 512) × (take (l.k * 2) l.out ≡ length_bytes (take l.k l.lengths))
