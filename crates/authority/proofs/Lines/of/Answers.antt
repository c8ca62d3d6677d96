use Rattle.std.proofs.Common.{rules}
use Rattle.std.specs.Prelude.{None}
use Rattle.authority.proofs.Numbers.{read_all}
use Rattle.authority.proofs.Lines.of.Goals as goal

pub returns-clause-read : goal.returns-clause-read
returns-clause-read c = (
  read_all _ _ 256 (search rules) c.map.ensures.items.long (λ k h. let r = c.map.ensures.items.at k 0 None h in search rules),
  read_all _ _ 256 (search rules) c.map-2.ensures.items.long (λ k h. let r = c.map-2.ensures.items.at k 0 None h in search rules),
)
