use mathlib.Core.Path.{◌≡◌, refl}
use native.Mathlib.Omega.{arith}
use lib.ListN.{length}
use borrow.Author.Rules.{rules}
use Rattle.event_ids.proofs.Columns.{column_own, column_other}
use Rattle.event_ids.proofs.lanes.Schedules.put.Goals as goal

pub returns : goal.returns
returns c = let a = c.args in
    let w = a.self.now.words in
    let n : length w ≡ 256 = search rules in
    record {
      lane = column_own a.l 64 a.t _ a.word w c.requires.0 (omega arith) refl;
      others = λ k h ne. column_other k a.l 64 a.t _ a.word w h c.requires.1 ne refl;
    }
