use mathlib.Core.Path.{sym}
use native.Mathlib.Omega.{arith}
use Rattle.event_ids.proofs.Columns.{get_d_column}
use Rattle.event_ids.proofs.lanes.SchedulesWords.word.Goals as goal

pub returns : goal.returns
returns c = let a = c.args in
    sym (get_d_column a.l 64 a.t a.self.now.words (omega arith))
