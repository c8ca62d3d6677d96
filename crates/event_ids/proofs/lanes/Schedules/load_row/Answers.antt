use mathlib.Core.Path.{ap, ◌∙◌}
use Prim.Native.Nat.{◌+◌, ◌*◌}
use native.Mathlib.Omega.{arith}
use lib.ListN.{length}
use Rattle.event_ids.proofs.Events.{length_part}
use Rattle.event_ids.proofs.lanes.Schedules.load_row.Goals as goal

pub load_word-requires : goal.load_word-requires
load_word-requires c = let at = c.loop-l.l * 192 + c.args.b * 64 in
    (c.requires.1, ap length c.block.ensures ∙ length_part c.args.events.now.bytes.now at 64 (omega (arith, c.args.events.now.long)))
