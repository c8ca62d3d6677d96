-- No held event has a height above 255, so the test for it could go.
use Prim.Native.Nat.{ℕ, ◌≤◌}
use native.Mathlib.Omega.{arith}
use mathlib.Core.Path.{◌≡◌, refl, ap}
use mathlib.Core.Bool.{Bool, true, false, ◌&&◌}
use mathlib.Core.Option.{Option, none, some}
use mathlib.Core.List.{List, [], ◌∷◌, ◌++◌}
use lib.Dec.{eqb, leb}
use lib.ListN.{length}
use borrow.Author.Tests.{le-leb}
use Rattle.lists.specs.Cases.{maybe, is_some}
use Rattle.lists.specs.Bytes.{Bytes}
use Rattle.lists.proofs.Tests.{all←}
use Rattle.cords.specs.Lent.{lent_entry, table_good}
use Rattle.event.specs.Answers.{refused, value, Test, must, first_failed}
use Rattle.event.specs.CheckLaws.{passed→}
use Rattle.model.specs.Events.{Id}
use Rattle.model.specs.Heights.{View, height, order}
use Rattle.model.proofs.HeightLaws.{height_bound}
use Rattle.model.specs.Verdicts.{verdict}
use Rattle.model.specs.Map.{machine}
use Rattle.model.specs.Rows.{order_bytes, map_bytes, written_bytes}
use Rattle.model.specs.Store.{held_in, store_good}
use Rattle.model.proofs.StoreLaws.{held-length, checked→}
use Rattle.store.specs.LookUp.{store_long, lent_tests}
use Rattle.reports.specs.Reports.{held_view, output_tests, write_tests, verdict_tests, report, figures_of, order_of, map_of, written_of, verdict_of}
use Rattle.claims.specs.Struck.{
  HeightsLow,
  heights_low,
  write_tests_before,
  verdict_tests_before,
  report_before,
  AnswersKept,
  EveryAnswerKept,
}

-- ── heights ─────────────────────────────────────────────────────────────────────────────────────────────────────────────

-- a height is below the number of events, and a store that passes check 2 holds at most 256
low : (entry : ℕ → ℕ → ℕ) (store : Bytes) (n : ℕ) → store_good entry store n ≡ true
    → (i : Id) (h : ℕ) → height (held_view store n) i ≡ some h → h ≤ 255
low entry store n good i h q =
    omega (arith, height_bound (held_in store n) i h q, held-length store n, (checked→ entry store n good).at_most)

pub heights_low_lem : HeightsLow
heights_low_lem entry store n good e held h q = low entry store n good e.ident h q

-- ── the test that went ──────────────────────────────────────────────────────────────────────────────────────────────────

-- a last test that passes wherever the others do may go
last_goes : (tests : List Test) (n : ℕ) (b : Bool) → (first_failed tests ≡ none → b ≡ true)
    → first_failed tests ≡ first_failed (tests ++ (must n b ∷ []))
last_goes [] n b h = rw (h refl)
last_goes (must k true ∷ tests) n b h = last_goes tests n b h
last_goes (must k false ∷ tests) n b h = refl

module _ (table store : Bytes) (count : ℕ) where
  abbrev v : View
  v = held_view store count

  passes_11 : store_good (lent_entry table) store count ≡ true → heights_low v ≡ true
  passes_11 good =
      all← (λ e. leb (maybe 0 (λ h. h) (height v e.ident)) 255) v.by_id
      (λ e m. le-leb _ 255 (at_most e.ident (height v e.ident) refl))
    where
      at_most : (i : Id) (o : Option ℕ) → height v i ≡ o → maybe 0 (λ h. h) o ≤ 255
      at_most i none q = omega arith
      at_most i (some h) q = low (lent_entry table) store count good i h q

  -- where the tests that begin with 1, 12 and 2 pass, so does 11
  after_2 : (lengths : Bool) (own : List Test) → first_failed (must 1 lengths ∷ (lent_tests table store count ++ own)) ≡ none
      → heights_low v ≡ true
  after_2 lengths own p =
      let one = passed→ 1 lengths (lent_tests table store count ++ own) p in
      let twelve = passed→ 12 (table_good table) (must 2 (store_good (lent_entry table) store count) ∷ own) one.1 in
      passes_11 (passed→ 2 (store_good (lent_entry table) store count) own twelve.1).0

  write_same : (bytes out : Bytes)
      → first_failed (write_tests table store count bytes out) ≡ first_failed (write_tests_before table store count bytes out)
  write_same bytes out =
      last_goes (write_tests table store count bytes out) 11 (heights_low v) (after_2 (store_long store) (output_tests bytes out))

  verdict_same : (id : Bytes)
      → first_failed (verdict_tests table store count id) ≡ first_failed (verdict_tests_before table store count id)
  verdict_same id =
      last_goes (verdict_tests table store count id) 11 (heights_low v)
      (after_2 (store_long store && eqb (length id) 32) (must 9 (is_some (v.find id)) ∷ []))

  report_same : {A : Type 0} (a : A) (bytes out : Bytes)
      → report (first_failed (write_tests table store count bytes out)) a bytes out ≡ report_before table store count a bytes out
  report_same a bytes out = ap (λ (o : Option ℕ). report o a bytes out) (write_same bytes out)

  answers-kept : AnswersKept table store count v
  unfolding order_of verdict_of map_of written_of
  answers-kept =
      record {
        write_tests_lem = write_same;
        verdict_tests_lem = verdict_same;
        order-kept = λ out. report_same (length (order v)) (order_bytes v) out;
        verdict-kept = λ id. ap (λ (o : Option ℕ). maybe (value (verdict v id)) refused o) (verdict_same id);
        map-kept = λ out. report_same (figures_of (machine v)) (map_bytes v) out;
        written-kept = λ out. report_same (length (written_bytes v)) (written_bytes v) out;
      }

pub every_answer_kept : EveryAnswerKept
every_answer_kept table store count = answers-kept table store count
