use Rattle.std.proofs.Common.{refl, ◌∙◌, arith, rules}
use Rattle.std.proofs.lemmas.Iterator.{YieldsList-from_range}
use Rattle.std.proofs.lemmas.Iterator.Search.{all_from_yields_List}
use Rattle.cords.specs.Lent.{pair_good}
use Rattle.cords.proofs.LentLaws.{all_numbers}
use Rattle.cords.proofs.row_good.Goals as goal

pub returns : goal.returns
returns c = let a = c.args.a in
    let test = pair_good c.args.table.now a in
    all_from_yields_List test _ _ _ c.all.ensures.ran (YieldsList-from_range 0 a a refl (omega arith)) (λ x b q k. search rules) ∙ all_numbers test a
