use Rattle.authority.proofs.Listed.{NamedTo}
use Rattle.authority.proofs.Lines.find.Given as goal

abbrev pub invariant-loop-place : goal.invariant-loop-place
invariant-loop-place l = NamedTo l.store l.named l.rows l.order l.presented l.targets l.place-index
