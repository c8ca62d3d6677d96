-- F-8: "Show that a store of 256 places never has a height above 255, remove the test, and strike the number. It is not given out
-- again. Every other answer remains what it was for every input." `table` is any lent cord table.
use Rattle.std.specs.Prelude.{ℕ, ◌≤◌, ◌≡◌, Bool, true, ◌&&◌, eqb, leb, length}
use Rattle.std.proofs.Math.Option.{some}
use mathlib.Core.List.{List, [], ◌∷◌, Memᴰ}
use Rattle.lists.specs.Cases.{maybe, is_some}
use Rattle.lists.specs.Bytes.{Bytes}
use Rattle.lists.specs.Tests.{all_of}
use Rattle.cords.specs.Lent.{lent_entry, table_good}
use Rattle.event.specs.declared.Refusal.{Refusal}
use Rattle.event.specs.Answers.{refused, value, number_of, Test, must, first_failed}
use Rattle.model.specs.Events.{Event}
use Rattle.model.specs.Heights.{View, height, order}
use Rattle.model.specs.Verdicts.{verdict}
use Rattle.model.specs.Map.{machine}
use Rattle.model.specs.Rows.{order_bytes, map_bytes, written_bytes}
use Rattle.model.specs.Store.{held_in, store_good}
use Rattle.store.specs.LookUp.{store_long}
use Rattle.reports.specs.Reports.{held_view, write_tests, verdict_tests, Report, report, figures_of, order_of, map_of, written_of, verdict_of}

-- "a store of 256 places never has a height above 255": no event held in a store that passes check 2
abbrev pub HeightsLow : Type 0
HeightsLow =
    (entry : ℕ → ℕ → ℕ) (store : Bytes) (count : ℕ) → store_good entry store count ≡ true
    → (e : Event) → Memᴰ e (held_in store count) → (h : ℕ) → height (held_view store count) e.ident ≡ some h → h ≤ 255

-- "strike the number. It is not given out again."
abbrev pub Struck : Type 0
Struck = (k : Refusal) → number_of k ≡ 11 → ⊥

-- ── the tests with 11 ────────────────────────────────────────────────────────────────────────────────────────────────────

-- 11 was "order, verdict, map or write-out with a height above 255", the last test of each
abbrev pub heights_low : View → Bool
heights_low v = all_of (λ e. leb (maybe 0 (λ h. h) (height v e.ident)) 255) v.by_id

abbrev pub write_tests_before : Bytes → Bytes → ℕ → Bytes → Bytes → List Test
write_tests_before table store count bytes out =
    must 1 (store_long store)
    ∷ must 12 (table_good table)
    ∷ must 2 (store_good (lent_entry table) store count)
    ∷ must 10 (leb (length bytes) (length out))
    ∷ must 11 (heights_low (held_view store count))
    ∷ []

abbrev pub verdict_tests_before : Bytes → Bytes → ℕ → Bytes → List Test
verdict_tests_before table store count id =
    must 1 (store_long store && eqb (length id) 32)
    ∷ must 12 (table_good table)
    ∷ must 2 (store_good (lent_entry table) store count)
    ∷ must 9 (is_some ((held_view store count).find id))
    ∷ must 11 (heights_low (held_view store count))
    ∷ []

-- what a call that writes gave: the bytes at the front of the output, or the number
abbrev pub report_before : {A : Type 0} → Bytes → Bytes → ℕ → A → Bytes → Bytes → Report A
report_before table store count a bytes out = report (first_failed (write_tests_before table store count bytes out)) a bytes out

-- "Every other answer remains what it was for every input": the lists have one first failure, so each of the four calls is what
-- the list before made it of the events held, v
pub record AnswersKept (table store : Bytes) (count : ℕ) (v : View) : Type 0 where
  pub write_tests_lem : (bytes out : Bytes)
      → first_failed (write_tests table store count bytes out) ≡ first_failed (write_tests_before table store count bytes out)
  pub verdict_tests_lem : (id : Bytes)
      → first_failed (verdict_tests table store count id) ≡ first_failed (verdict_tests_before table store count id)
  pub order-kept : (out : Bytes)
      → order_of table store count out ≡ report_before table store count (length (order v)) (order_bytes v) out
  pub verdict-kept : (id : Bytes)
      → verdict_of table store count id ≡ maybe (value (verdict v id)) refused (first_failed (verdict_tests_before table store count id))
  pub map-kept : (out : Bytes)
      → map_of table store count out ≡ report_before table store count (figures_of (machine v)) (map_bytes v) out
  pub written-kept : (out : Bytes)
      → written_of table store count out ≡ report_before table store count (length (written_bytes v)) (written_bytes v) out

abbrev pub EveryAnswerKept : Type 0
EveryAnswerKept = (table store : Bytes) (count : ℕ) → AnswersKept table store count (held_view store count)
