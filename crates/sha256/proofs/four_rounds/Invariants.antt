use Rattle.std.proofs.Common.{◌≡◌, ℕ, ◌+◌, List}
use Rattle.sha256.specs.Sha256.{rounds}
use Rattle.sha256.specs.Rolling.{AtHand}
use Rattle.sha256.specs.declared.State.{State}
use Rattle.sha256.proofs.four_rounds.Given as goal

abbrev pub invariant-loop-j : goal.invariant-loop-j
invariant-loop-j g l = (x : List ℕ) (z : State) → AtHand g.row.N x l.t 4 l.w → l.fn.s0 ≡ rounds l.t x z → l.s ≡ rounds (l.t + l.j) x z
