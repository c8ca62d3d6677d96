use mathlib.Core.Path.{◌∙◌, sym, ap}
use Prim.Native.Nat.{◌<◌}
use native.Mathlib.Omega.{arith}
use Rattle.sha256.specs.Sha256.{schedule}
use Rattle.sha256.specs.FourthBlock.{padding_schedule}
use Rattle.event_ids.proofs.Events.{padding_block_lem, zero_block}
use Rattle.event_ids.proofs.lanes.known_schedule.Goals as goal

pub returns-then-b-eq3 : goal.returns-then-b-eq3
unfolding padding_schedule
returns-then-b-eq3 c = let four = c.args.events.now in
    λ l h. c.padding_schedule.ensures ∙ sym (ap schedule (padding_block_lem four.bytes.now l four.long h c.args.b c.if-b-eq3.true))

pub returns-then-is_zero : goal.returns-then-is_zero
returns-then-is_zero c = let four = c.args.events.now in
    let b : c.args.b < 3 = omega arith in
    λ l h. zero_block four.bytes.now l four.long h c.args.b b (c.is_zero.ensures.0 c.if-is_zero.true l h)
