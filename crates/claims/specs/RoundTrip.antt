-- The second demand's last sentence: "A bundle from a unit's write-out, taken by a unit freshly started with the same create
-- event, gives that unit the same events, and writing them out again gives the same bytes."
use Rattle.std.specs.Prelude.{ℕ, ◌+◌, ◌-◌, ◌*◌, ◌≤◌, ◌≡◌, true, [], length, take}
use Rattle.lists.specs.Bytes.{Bytes}
use Rattle.lists.specs.Tests.{SameMembers}
use Rattle.lists.specs.Sorting.{Distinct}
use Rattle.octets.specs.Octets.{part}
use Rattle.sha256.specs.Sha256.{sha256}
use Rattle.cords.specs.Lent.{lent_entry, table_good}
use Rattle.event.specs.Answers.{Answer, value, refused}
use Rattle.model.specs.Store.{store_good}
use Rattle.takes.specs.declared.Placed.TheVariants.{Stored}
use Rattle.takes.specs.Takes.{start_of, bundle_of}
use Rattle.call_lists.specs.Calls.{Lent, bundle, held_by, started, after_call}
use Rattle.reports.specs.Reports.{written_of}

-- "write-out the number of bytes": the written bundle is as many bytes at the front of the output as write-out answers
abbrev pub front_of : Answer ℕ → Bytes → Bytes
front_of (value n) out = take n out
front_of (refused k) out = []

abbrev pub written_by : Bytes → Lent → Bytes → Bytes
written_by table m out =
    let r = written_of table m.store m.count out in
    front_of r.answer r.out

-- 192 bytes for each event, and 12 for the trailer
abbrev pub written_size : Lent → ℕ
written_size m = 192 * m.count + 12

-- the first place: the create event
abbrev pub creator_of : Lent → Bytes
creator_of m = part m.store 0 192

-- the fresh unit: the buffer, started with the create event; and the same unit after the written bundle
abbrev pub fresh : Bytes → Lent → Bytes → Lent
fresh table m buffer = started table buffer (creator_of m)

abbrev pub taken : Bytes → Lent → Bytes → Bytes → Lent
taken table m out buffer = after_call table (fresh table m buffer) (bundle (written_by table m out))

-- all the premises: a table, a store and a count that pass checks 12, 1 and 2; two outputs long enough for the bundle; a buffer
-- of the right size, of any bytes
pub record TripPremises (table : Bytes) (m : Lent) (out again buffer : Bytes) : Type 0 where
  pub size : length m.store ≡ 49152
  pub lent : table_good table ≡ true
  pub passes : store_good (lent_entry table) m.store m.count ≡ true
  pub out_long : written_size m ≤ length out
  pub again_long : written_size m ≤ length again
  pub buffer_size : length buffer ≡ 49152

pub record Trip (table : Bytes) (m : Lent) (out again buffer : Bytes) : Type 0 where
  -- write-out writes
  pub written : (written_of table m.store m.count out).answer ≡ value (written_size m)
  -- the fresh unit starts
  pub starts : (start_of table buffer (creator_of m)).answer ≡ value Stored
  -- all events but the create event are new to it, and none is refused
  pub figures : (bundle_of table (fresh table m buffer).store (fresh table m buffer).count (written_by table m out)).answer
      ≡ value (record { new = m.count - 1; repeats = 1; refused = 0 })
  -- it "gives that unit the same events", each once
  pub same_count : (taken table m out buffer).count ≡ m.count
  pub same_events : SameMembers (held_by (taken table m out buffer)) (held_by m)
  pub distinct : Distinct sha256 (held_by (taken table m out buffer))
  -- "and writing them out again gives the same bytes"
  pub written_again : (written_of table (taken table m out buffer).store (taken table m out buffer).count again).answer
      ≡ value (written_size m)
  pub same_bytes_lem : written_by table (taken table m out buffer) again ≡ written_by table m out

abbrev pub RoundTrip : Type 0
RoundTrip =
    (table : Bytes) (m : Lent) (out again buffer : Bytes) → TripPremises table m out again buffer → Trip table m out again buffer
