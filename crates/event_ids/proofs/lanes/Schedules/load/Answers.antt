use mathlib.Core.Path.{refl}
use native.Mathlib.Omega.{arith}
use Rattle.sha256.specs.Sha256.{words}
use Rattle.event_ids.specs.Lanes.{block_of}
use Rattle.event_ids.proofs.Compression.{load_turn}
use Rattle.event_ids.proofs.lanes.Schedules.load.Goals as goal

pub loop-j-preserved : goal.loop-j-preserved
loop-j-preserved c = let a = c.args in
    let j = c.loop-j.j in
    let row = c.load_row in
    λ l h. let turn = load_turn (block_of l a.b a.events.now.bytes.now) c.loop-j.self.words row.new.self.words l j in
    turn (omega arith) (c.loop-j.invariant l h) (row.ensures l h)

pub loop-j-init : goal.loop-j-init
unfolding words
loop-j-init c = λ l h. refl
