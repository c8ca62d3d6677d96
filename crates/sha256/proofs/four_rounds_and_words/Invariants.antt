use Rattle.std.proofs.Common.{ℕ, List, ◌+◌}
use Rattle.sha256.specs.Rolling.{Grown, Rolling}
use Rattle.sha256.specs.declared.State.{State}
use Rattle.sha256.proofs.four_rounds_and_words.Given as goal

abbrev pub invariant-loop-j : goal.invariant-loop-j
invariant-loop-j l = (x : List ℕ) (z : State) → Grown x → Rolling x z (l.t + l.i) l.initial.w l.fn.s0 → Rolling x z (l.t + l.j) l.w l.s
