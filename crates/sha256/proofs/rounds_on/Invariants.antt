use Rattle.std.proofs.Common.{◌≡◌, ℕ, ◌-◌, ◌%◌, ◌≤◌, List}
use Rattle.sha256.specs.Sha256.{rounds}
use Rattle.sha256.specs.Rolling.{AtHand}
use Rattle.sha256.specs.declared.State.{State}
use Rattle.sha256.proofs.rounds_on.Given as goal

abbrev pub invariant-loop-t : goal.invariant-loop-t
invariant-loop-t g l = (l.from ≤ l.t) × (l.t ≤ 64) × (l.t % 8 ≡ 0)
    × ((x : List ℕ) (z : State) → AtHand g.row.N x l.from (64 - l.from) l.w → l.fn.s0 ≡ rounds l.from x z → l.s ≡ rounds l.t x z)
