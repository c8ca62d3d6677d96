use Rattle.std.proofs.Common.{refl, sym, ◌∙◌, arith, rules}
use Rattle.std.proofs.lemmas.Iterator.{YieldsList-from_range}
use Rattle.std.proofs.lemmas.Iterator.Search.{all_from_yields_List}
use Rattle.cords.specs.LentLaws.{row_good}
use Rattle.cords.proofs.LentLaws.{all_numbers, table_once}
use Rattle.cords.proofs.table_good.Goals as goal

pub returns-then-table-eq-TABLE_BYTES : goal.returns-then-table-eq-TABLE_BYTES
returns-then-table-eq-TABLE_BYTES c = let table = c.args.table.now in
    let test = row_good table in
    all_from_yields_List test _ _ _ c.all.ensures.ran (YieldsList-from_range 0 16 16 refl refl) (λ x b q k. search rules)
    ∙ all_numbers test 16
    ∙ sym (table_once table (omega arith))
