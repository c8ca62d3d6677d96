use Rattle.authority.proofs.Listed.{named_more}
use Rattle.tables.specs.Filling.{listed_low}
use Rattle.authority.proofs.Lines.find.Goals as goal

pub loop-place-preserved : goal.loop-place-preserved
loop-place-preserved c =
    rw (c.from.ensures, c.from-in-loop-place.ensures)
    (named_more _ _ _ _ _ _ _ c.loop-place.invariant c.loop-place-test.true (listed_low _ _ c.requires c.loop-place-test.true) _ _
    c.find_ancestor.ensures c.find_target.ensures)
