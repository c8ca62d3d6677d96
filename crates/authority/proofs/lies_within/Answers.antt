use Rattle.std.proofs.Common.{rules, not, ◌||◌, ◌∷◌, []}
use Rattle.std.proofs.lemmas.Iterator.{YieldsList-from_slice}
use Rattle.std.proofs.lemmas.Iterator.Search.{all_from_yields_List}
use borrow.Author.Tests.{tests}
use Rattle.model.specs.Verdicts.{has, within}
use Rattle.authority.specs.Sound.{right_number}
use Rattle.authority.specs.declared.Right.TheVariants.{Patch, Grant, Revoke}
use Rattle.authority.proofs.lies_within.Goals as goal

pub returns : goal.returns
unfolding within
returns c =
    all_from_yields_List (λ q. not (has c.args.f (right_number q)) || has c.args.g (right_number q)) _ _ _ c.all.ensures.ran
    (YieldsList-from_slice (Patch ∷ Grant ∷ Revoke ∷ []) cc)
    (λ x b q k. search (rules, tests))
