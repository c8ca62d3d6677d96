use Rattle.std.proofs.Common.{rules, ◌∙◌}
use Rattle.std.proofs.lemmas.Iterator.{YieldsList-from_slice}
use Rattle.std.proofs.lemmas.Iterator.Search.{all_from_yields_List}
use borrow.Author.Tests.{tests}
use Rattle.ordering.specs.Named.{number_of_spot}
use Rattle.authority.specs.Sound.{parent_sound}
use Rattle.authority.proofs.Answers.{parents_all}
use Rattle.authority.proofs.parents_sound.Goals as goal

pub returns : goal.returns
returns c =
    all_from_yields_List (λ s. parent_sound c.args.sound.now (number_of_spot s)) _ _ _ c.all.ensures.ran (YieldsList-from_slice _ c.iter.ensures.rest)
    (λ x b q k. search (rules, tests))
    ∙ parents_all c.args.named.now c.args.sound.now c.args.k _ (search rules) c.parents.ensures
