-- The third demand: "Two units are started with one create event. Then each gets a list of calls of its own: single takes and
-- bundles of any bytes, the refused ones included. An event counts where it is offered singly, or in a bundle that passes check
-- 8, and itself passes checks 1 and 3 to 6. For every two such lists whose counted events make with the creator the same set, of
-- at most 256 events, no two sharing an id, in whatever orders, bundles and repeats: after both lists the two units answer
-- order, verdict, map and write-out alike, and their answers and written bytes are those that document 01 defines from that set.
-- Each cord on the map was joined by an effective join, under a line of grants back to the creator. No grant on that line gives
-- a right that the one above it lacked. Every effective revoke of a grant on that line has the join among its ancestors."
use Rattle.std.specs.Prelude.{◌≤◌, ◌≡◌, length}
use mathlib.Core.List.{List, ◌∷◌, map, Memᴰ}
use Rattle.lists.specs.Bytes.{Bytes}
use Rattle.lists.specs.Tests.{SameMembers}
use Rattle.lists.specs.Sorting.{Distinct}
use Rattle.sha256.specs.Sha256.{sha256}
use Rattle.event.specs.Answers.{value}
use Rattle.event.specs.declared.Cord.{Cord}
use Rattle.model.specs.Store.{event_of}
use Rattle.model.specs.Map.{map_rows}
use Rattle.model.specs.MapLaws.{RowBy}
use Rattle.takes.specs.declared.Placed.TheVariants.{Stored}
use Rattle.takes.specs.Takes.{start_of}
use Rattle.call_lists.specs.Calls.{Call, Lent, counted_events, started, after_calls}
use Rattle.reports.specs.Reports.{order_of, map_of, written_of, verdict_of}
use Rattle.claims.specs.Told.{set_view, Tells}

-- what a unit is given: the buffer that it is started with, of any bytes, and its calls
pub record Given : Type 0 where
  pub buffer : Bytes
  pub calls : List Call

-- "the four calls are lent what it left": the store and the count after the start and the calls
abbrev pub leaves : Bytes → Bytes → Given → Lent
leaves table creator u = after_calls table (started table u.buffer creator) u.calls

-- "The set is the creator and every event whose offer passes 1 and 3 to 6.": defined from the creator's bytes and the offered ones
abbrev pub counts : Bytes → Bytes → Given → List Bytes
counts table creator u = creator ∷ counted_events table creator u.calls

-- the start answered "stored", and the counted events make the set `s`
pub record Makes (table creator : Bytes) (s : List Bytes) (u : Given) : Type 0 where
  pub starts : (start_of table u.buffer creator).answer ≡ value Stored
  pub same_set : SameMembers s (counts table creator u)

-- all the premises. F-4: "What is said of two units holds where every call to either is lent one and the same table": any table; that it
-- passes check 12 follows, since a start answered "stored". `s` lists the set, no two members with one id; counted events may come
-- repeatedly. Nothing is said of the members' length or fields, nor of SHA-256.
pub record Premises (table creator : Bytes) (s : List Bytes) (u w : Given) : Type 0 where
  -- "of at most 256 events, no two sharing an id"
  pub at_most : length s ≤ 256
  pub distinct : Distinct sha256 s
  -- "Two units are started with one create event. .. whose counted events make with the creator the same set"
  pub first : Makes table creator s u
  pub second : Makes table creator s w

-- "the two units answer order, verdict, map and write-out alike"
pub record Equal (table : Bytes) (m n : Lent) : Type 0 where
  pub same_order : (out : Bytes) → order_of table m.store m.count out ≡ order_of table n.store n.count out
  pub same_verdicts : (id : Bytes) → length id ≡ 32
      → verdict_of table m.store m.count id ≡ verdict_of table n.store n.count id
  pub same_map : (out : Bytes) → map_of table m.store m.count out ≡ map_of table n.store n.count out
  pub same_written : (out : Bytes) → written_of table m.store m.count out ≡ written_of table n.store n.count out

-- the conclusion, for every output and every asked id
pub record Agree (table creator : Bytes) (s : List Bytes) (u w : Given) : Type 0 where
  pub equal : Equal table (leaves table creator u) (leaves table creator w)
  -- "and their answers and written bytes are those that document 01 defines from that set"
  pub first_tells : Tells table s (leaves table creator u)
  pub second_tells : Tells table s (leaves table creator w)
  -- "Each cord on the map was joined by an effective join, under a line of grants back to the creator. No grant on that line gives
  -- a right that the one above it lacked. Every effective revoke of a grant on that line has the join among its ancestors.":
  -- `RowBy`, of each row of the map
  pub each_cord : (c : Cord) → Memᴰ c (map_rows (set_view s)) → RowBy (map event_of s) c

abbrev pub ThirdDemand : Type 0
ThirdDemand = (table creator : Bytes) (s : List Bytes) (u w : Given) → Premises table creator s u w → Agree table creator s u w
