-- What document 01 defines from a set of events, and when a unit's four calls tell it. The set is given as its members' bytes.
use Rattle.std.specs.Prelude.{ℕ, ◌≡◌, cond, List, map, leb, length}
use Rattle.lists.specs.Cases.{is_some}
use Rattle.lists.specs.Bytes.{Bytes}
use Rattle.event.specs.Answers.{Answer, value, refused}
use Rattle.model.specs.Store.{event_of}
use Rattle.model.specs.Heights.{View, view, order}
use Rattle.model.specs.Verdicts.{verdict}
use Rattle.model.specs.Map.{machine}
use Rattle.model.specs.Rows.{order_bytes, map_bytes, written_bytes}
use Rattle.model.specs.Output.{overwritten}
use Rattle.call_lists.specs.Calls.{Lent}
use Rattle.reports.specs.Reports.{Report, figures_of, order_of, map_of, written_of, verdict_of}

-- the set whose members have these bytes
abbrev pub set_view : List Bytes → View
set_view s = view (map event_of s)

-- "Each equals what this paper defines from the set, where the output is long enough; a shorter one meets 10": the number and the
-- bytes, in front of the output's bytes past their end; or 10, and the output as it was
abbrev pub report_from : {A : Type 0} → A → Bytes → Bytes → Report A
report_from a bytes out =
    cond (leb (length bytes) (length out))
    (record { answer = value a; out = overwritten bytes out })
    (record { answer = refused 10; out = out })

-- "the verdict, or 9 where no event of the set has that id"
abbrev pub verdict_from : View → Bytes → Answer ℕ
verdict_from v id = cond (is_some (v.find id)) (value (verdict v id)) (refused 9)

-- the four calls, lent the store, the count and a cord table, tell what is defined from the set `s`, whatever output they are lent
pub record Tells (table : Bytes) (s : List Bytes) (m : Lent) : Type 0 where
  -- "order's rows and their number"
  pub order_told : (out : Bytes)
      → order_of table m.store m.count out ≡ report_from (length (order (set_view s))) (order_bytes (set_view s)) out
  -- "for every asked id of 32 bytes the verdict, or 9"
  pub verdict_told : (id : Bytes) → length id ≡ 32 → verdict_of table m.store m.count id ≡ verdict_from (set_view s) id
  -- "the map's rows, their number, ended and joins run"
  pub map_told : (out : Bytes)
      → map_of table m.store m.count out ≡ report_from (figures_of (machine (set_view s))) (map_bytes (set_view s)) out
  -- "write-out's bytes and their number"
  pub written_told : (out : Bytes)
      → written_of table m.store m.count out
      ≡ report_from (length (written_bytes (set_view s))) (written_bytes (set_view s)) out
