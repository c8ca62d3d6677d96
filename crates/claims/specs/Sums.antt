-- The sums of document 01, and what check 2 passes, for every cord table.
use Rattle.std.specs.Prelude.{◌+◌, ◌≡◌, true, List, length}
use Rattle.lists.specs.Bytes.{Bytes}
use Rattle.cords.specs.Lent.{lent_entry, table_good}
use Rattle.event.specs.Answers.{value}
use Rattle.model.specs.Bundle.{count_in}
use Rattle.model.specs.Store.{store_good}
use Rattle.takes.specs.declared.Tally.{Tally}
use Rattle.takes.specs.Takes.{bundle_of}
use Rattle.call_lists.specs.Calls.{Call, Lent}
use Rattle.call_lists.specs.CallLaws.{LeftBy}
use Rattle.reports.specs.declared.MapFigures.{MapFigures}
use Rattle.reports.specs.Reports.{map_of}

-- "New + repeats + refused of one bundle = its count."
abbrev pub FiguresAddUp : Type 0
FiguresAddUp =
    (table : Bytes) (m : Lent) (b : Bytes) (t : Tally) → (bundle_of table m.store m.count b).answer ≡ value t
    → t.new + t.repeats + t.refused ≡ count_in b

-- "Joins run, the number of joins that the machine ran, = links standing + ended." The map has one row a link.
abbrev pub JoinsAddUp : Type 0
JoinsAddUp =
    (table : Bytes) (m : Lent) (out : Bytes) (f : MapFigures) → (map_of table m.store m.count out).answer ≡ value f
    → f.joins ≡ f.rows + f.ended

-- check 2 passes a store exactly where its held places and its count are those that a list of calls leaves: any buffer of the
-- right size can be started and given calls that leave them, and whatever was left so passes. A table that fails check 12 starts no unit, so
-- the claim is about those that pass it.
pub record ReachedExactly (table : Bytes) (m : Lent) : Type 0 where
  pub reached : store_good (lent_entry table) m.store m.count ≡ true → (buffer : Bytes) → length buffer ≡ 49152
      → (creator : Bytes) × (calls : List Call) × LeftBy table m buffer creator calls
  pub passes : (buffer creator : Bytes) (calls : List Call) → LeftBy table m buffer creator calls
      → store_good (lent_entry table) m.store m.count ≡ true

abbrev pub Check2Exact : Type 0
Check2Exact = (table : Bytes) (m : Lent) → table_good table ≡ true → length m.store ≡ 49152 → ReachedExactly table m
