use Rattle.std.proofs.Common.{arith, ◌∙◌, refl, length-set}
use Rattle.verdicts.proofs.Turns.{next_low, presented_low, turn_start, turn_again}
use Rattle.verdicts.proofs.find_effects.Goals as goal

pub loop-place-init : goal.loop-place-init
loop-place-init c = (refl, λ on rank graded sorted. turn_start on _ _ _ _ c.full-keep.ensures)

pub loop-place-preserved : goal.loop-place-preserved
loop-place-preserved c =
    let low = next_low _ c.requires c.loop-place-test.true in
    let l = c.loop-place in
    rw (c.from.ensures, c.effect-kept.ensures.value) (
      length-set l.effective _ _ ∙ l.invariant.0,
      λ on rank graded sorted.
          turn_again on _ _ _ rank _ graded sorted l.keep l.effective l.place-index
          (l.invariant.1 on rank graded sorted) c.loop-place-test.true (presented_low _ c.requires c.loop-place-test.true) low
          (omega (arith, low, l.invariant.0)) _ c.effect-kept.ensures.kept,
    )
