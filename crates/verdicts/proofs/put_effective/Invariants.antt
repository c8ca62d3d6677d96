use Rattle.verdicts.proofs.Running.{Running}
use Rattle.verdicts.proofs.put_effective.Given as goal

abbrev pub invariant-loop-place : goal.invariant-loop-place
invariant-loop-place l = Running l.verdicts l.list l.run.items l.place-index
