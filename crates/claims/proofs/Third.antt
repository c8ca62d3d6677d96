-- The third demand.
use native.Mathlib.Omega.{arith}
use mathlib.Core.Path.{sym, ◌∙◌}
use mathlib.Core.List.{List, map}
use Rattle.lists.specs.Bytes.{Bytes}
use Rattle.model.specs.Store.{event_of}
use Rattle.model.proofs.MapLaws.{row_by}
use Rattle.call_lists.specs.Calls.{Fits, Lent}
use Rattle.claims.specs.Told.{Tells}
use Rattle.claims.specs.ThirdDemand.{Equal, leaves, ThirdDemand}
use Rattle.claims.proofs.Units.{ids_distinct, unit_tells}

-- two units that tell one set
both_tell : (table : Bytes) {s : List Bytes} (m n : Lent) → Tells table s m → Tells table s n → Equal table m n
both_tell table m n a b =
    record {
      same_order = λ out. a.order_told out ∙ sym (b.order_told out);
      same_verdicts = λ id long. a.verdict_told id long ∙ sym (b.verdict_told id long);
      same_map = λ out. a.map_told out ∙ sym (b.map_told out);
      same_written = λ out. a.written_told out ∙ sym (b.written_told out);
    }

pub third_demand : ThirdDemand
third_demand table creator s u w h =
    let fits : Fits s = record { at_most = omega (arith, h.at_most); distinct = h.distinct } in
    let one = unit_tells table creator s fits u h.first in
    let two = unit_tells table creator s fits w h.second in
    record {
      equal = both_tell table (leaves table creator u) (leaves table creator w) one two;
      first_tells = one;
      second_tells = two;
      each_cord = row_by (map event_of s) (ids_distinct s h.distinct);
    }
