use Rattle.std.proofs.Common.{◌≡◌, ◌%◌, ◌≤◌}
use Rattle.sha256.specs.Sha256.{extended}
use Rattle.sha256.specs.Rolling.{Rolling}
use Rattle.sha256.proofs.first_rounds.Given as goal

abbrev pub invariant-loop-t : goal.invariant-loop-t
invariant-loop-t l = (l.t ≤ 48) × (l.t % 16 ≡ 0) × Rolling (extended 48 l.initial.w) l.fn.s0 l.t l.w l.s
