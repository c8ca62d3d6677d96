-- Two lists with the same members and no shared ids have one view, so every answer agrees on them.
-- The laws on these words stand in proofs/Agreement.
use Rattle.std.specs.Prelude.{◌≡◌, List}
use Rattle.model.specs.Events.{Id, Event}
use Rattle.model.specs.Heights.{view, written}
use Rattle.model.specs.Verdicts.{asked_verdict}
use Rattle.model.specs.Map.{machine, map_rows}
use Rattle.model.specs.Rows.{order_bytes, map_bytes, written_bytes}

-- what order, verdict, map and write-out answer of one list is what they answer of the other
pub record SameAnswers (s t : List Event) : Type 0 where
  pub rows : order_bytes (view s) ≡ order_bytes (view t)
  pub verdicts : (i : Id) → asked_verdict (view s) i ≡ asked_verdict (view t) i
  pub map_rows_lem : map_rows (view s) ≡ map_rows (view t)
  pub map-bytes : map_bytes (view s) ≡ map_bytes (view t)
  pub ended : (machine (view s)).ended ≡ (machine (view t)).ended
  pub joins-run : (machine (view s)).joins ≡ (machine (view t)).joins
  pub written-events : written (view s) ≡ written (view t)
  pub written-bytes : written_bytes (view s) ≡ written_bytes (view t)
