use Rattle.std.proofs.Common.{◌≡◌, ◌*◌, length, take, flat_map}
use Rattle.sha256.specs.Sha256.{word_bytes}
use Rattle.sha256.proofs.to_bytes.Given as goal

-- `sha256::to_bytes` meets its contract.
-- Assumes nothing.

abbrev pub invariant-loop-i : goal.invariant-loop-i
invariant-loop-i l = (length l.out ≡ 32) × (take (l.i * 4) l.out ≡ flat_map word_bytes (take l.i l.word-items))
