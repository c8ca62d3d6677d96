-- The sums, and what check 2 passes.
use Prim.Native.Nat.{◌-◌}
use mathlib.Core.Path.{◌≡◌, refl, ap, ◌∙◌}
use mathlib.Core.Option.{none, some}
use mathlib.Core.List.{[]}
use lib.ListN.{drop}
use Rattle.lists.specs.Cases.{by_option, clash_option}
use Rattle.lists.specs.Chunks.{length-chunks}
use Rattle.octets.specs.Octets.{part}
use Rattle.cords.specs.Lent.{lent_entry, table_good}
use Rattle.event.specs.Answers.{value, first_failed}
use Rattle.event.specs.CheckLaws.{passed→}
use Rattle.model.specs.Bundle.{trailer_at, distance_in, bundle_good, count_in, events_in}
use Rattle.model.specs.Store.{store_good}
use Rattle.model.specs.Heights.{View}
use Rattle.model.specs.Map.{machine}
use Rattle.model.proofs.MapLaws.{joins-run}
use Rattle.model.specs.Rows.{map_bytes}
use Rattle.store.specs.LookUp.{store_long}
use Rattle.bundles.specs.BundleCheck.{passes_8}
use Rattle.takes.specs.Takes.{bundle_tests, bundle_of, run_of}
use Rattle.takes.specs.TakeLaws.{number_in, fresh_run, total}
use Rattle.takes.proofs.TakeLaws.{figures_total}
use Rattle.call_lists.specs.CallLaws.{takes_of}
use Rattle.call_lists.proofs.CallLaws.{passes-left, left-passes}
use Rattle.reports.specs.Reports.{held_view, write_tests, figures_of, map_of}
use Rattle.claims.specs.Sums.{FiguresAddUp, JoinsAddUp, Check2Exact}

pub figures_add_up : FiguresAddUp
unfolding bundle_of
figures_add_up table m b t p =
    by_option (first_failed (bundle_tests table m.store m.count b)) passed (λ k q. clash_option (some k) k (ap number_in (rw q at p)) refl)
  where
    passed : first_failed (bundle_tests table m.store m.count b) ≡ none → total t ≡ count_in b
    passed q =
        let tests = bundle_tests table m.store m.count b in
        let one = passed→ 1 (store_long m.store) (drop 1 tests) q in
        let twelve = passed→ 12 (table_good table) (drop 2 tests) one.1 in
        let two = passed→ 2 (store_good (lent_entry table) m.store m.count) (drop 3 tests) twelve.1 in
        let eight = passed→ 8 (bundle_good b) [] two.1 in
        let count = length-chunks 192 (drop (trailer_at b - distance_in b) b) (count_in b) in
        let few = (passes_8 b eight.0).few in
        let answer : value (run_of table (fresh_run m.store m.count) (events_in b)).figures ≡ value t = rw q at p in
        let same : t ≡ (run_of table (fresh_run m.store m.count) (events_in b)).figures = cc in
        ap total same
        ∙ figures_total table m.store m.count (events_in b) (rw count few) ∙ count

pub joins_add_up : JoinsAddUp
unfolding map_of
joins_add_up table m out f p =
    by_option (first_failed (write_tests table m.store m.count (map_bytes v) out))
    (λ q.
    let answer : value (figures_of (machine v)) ≡ value f = rw q at p in
    let same : f ≡ figures_of (machine v) = cc in
    rw same (joins-run v))
    (λ k q. clash_option (some k) k (ap number_in (rw q at p)) refl)
  where
    v : View
    v = held_view m.store m.count

pub check_2_exact : Check2Exact
check_2_exact table m lent size =
    record {
      reached = λ t buffer l. (part m.store 0 192, takes_of m, passes-left table m buffer lent size t l);
      passes = λ buffer creator calls k. left-passes table m buffer creator calls k;
    }
