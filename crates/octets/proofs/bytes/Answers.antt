use Rattle.std.proofs.Common.{refl, ◌∙◌, rules}
use Rattle.lists.proofs.FromFn.{filled_at}
use Rattle.octets.specs.FrontLaws.{part_byte}
use Rattle.octets.specs.Octets.{byte_at}
use Rattle.octets.proofs.bytes.Goals as goal

pub returns : goal.returns
returns g c i h = let from = c.part-from.result.now in
    let is = filled_at _ (byte_at from) _ (λ k y q r. search rules) _ c.from_fn.ensures.items i h in
    is ∙ rw c.part-from.ensures.value (part_byte _ _ _ i _ h refl)
