use Rattle.tables.specs.Filling.{listed_low}
use Rattle.authority.proofs.Listed.{sound_none, sound_more}
use Rattle.authority.proofs.Lines.authorize.Goals as goal

pub loop-place-init : goal.loop-place-init
loop-place-init c = sound_none _ _ _ _ _

pub loop-place-preserved : goal.loop-place-preserved
loop-place-preserved c =
    rw c.from.ensures
    (sound_more _ _ _ _ _ _ _ c.requires c.loop-place.invariant c.loop-place-test.true (listed_low _ _ c.requires.low c.loop-place-test.true) _
    c.is_sound-s.ensures)
