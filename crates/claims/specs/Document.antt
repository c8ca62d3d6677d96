-- F-4, for a hall without a table of its own: lent document 01's table, each call is for every input what the constant table makes it. 12 never
-- applies, and check 6, in 2 and by itself, is by the constant's entries.
use Rattle.std.specs.Prelude.{ℕ, ◌≡◌, ◌&&◌, List, [], ◌∷◌, eqb, leb, length}
use Rattle.lists.specs.Cases.{maybe, is_some}
use Rattle.lists.specs.Bytes.{Bytes}
use Rattle.lists.specs.Tests.{member_of}
use Rattle.octets.specs.Octets.{part, pasted}
use Rattle.cords.specs.Cords.{cord_limit}
use Rattle.cords.specs.DocumentTable.{document_table}
use Rattle.event.specs.Answers.{Answer, value, refused, Test, must, first_failed}
use Rattle.event.specs.Fields.{kind_of, fields_good}
use Rattle.event.specs.Checks.{offer_tests}
use Rattle.model.specs.Heights.{order}
use Rattle.model.specs.Verdicts.{verdict}
use Rattle.model.specs.Map.{machine}
use Rattle.model.specs.Rows.{order_bytes, map_bytes, written_bytes}
use Rattle.model.specs.Bundle.{bundle_good, events_in}
use Rattle.model.specs.Store.{store_good}
use Rattle.store.specs.LookUp.{held_ids, store_long, place_of, look_up_of}
use Rattle.takes.specs.declared.Tally.{Tally}
use Rattle.takes.specs.declared.Placed.{Placed}
use Rattle.takes.specs.declared.Placed.TheVariants.{Stored}
use Rattle.takes.specs.Takes.{Left, start_of, checked_answer, after_take, take_of, counted, Run, no_figures, after_run, bundle_of}
use Rattle.reports.specs.Reports.{held_view, Report, report, figures_of, order_of, map_of, written_of, verdict_of}
use Rattle.text.specs.Text.{room_text, text_of}

-- 2 by the constant table
abbrev must2 : Bytes → ℕ → Test
must2 store count = must 2 (store_good cord_limit store count)

-- 1, 3, 5
abbrev pub start_by : Bytes → Bytes → Left Placed
start_by store e =
    maybe (record { answer = value Stored; count = 1; store = pasted store 0 e })
    (λ n. record { answer = refused n; count = 0; store = store })
    (first_failed (must 1 (eqb (length e) 192 && store_long store) ∷ must 3 (fields_good e) ∷ must 5 (eqb (kind_of e) 0) ∷ []))

-- 1, 2, 3 to 6
abbrev pub take_by : Bytes → ℕ → Bytes → Left Placed
take_by store count e =
    after_take store count e
    (maybe (checked_answer store count e) refused
    (first_failed (must 1 (eqb (length e) 192 && store_long store) ∷ must2 store count ∷ offer_tests cord_limit (part store 0 192) e)))

abbrev pub step_by : Run → Bytes → Run
step_by r e =
    let left = take_by r.store r.count e in
    record { figures = counted r.figures left.answer; count = left.count; store = left.store }

abbrev pub run_by : Run → List Bytes → Run
run_by r [] = r
run_by r (e ∷ es) = run_by (step_by r e) es

-- 1, 2, 8
abbrev pub bundle_by : Bytes → ℕ → Bytes → Left Tally
bundle_by store count b =
    maybe (after_run (run_by (record { figures = no_figures; count = count; store = store }) (events_in b)))
    (λ n. record { answer = refused n; count = count; store = store })
    (first_failed (must 1 (store_long store) ∷ must2 store count ∷ must 8 (bundle_good b) ∷ []))

-- 1, 2, 9
abbrev pub look_up_by : Bytes → ℕ → Bytes → Answer ℕ
look_up_by store count id =
    maybe (value (place_of (held_ids store count) id)) refused
    (first_failed (must 1 (store_long store && eqb (length id) 32) ∷ must2 store count ∷ must 9 (member_of id (held_ids store count)) ∷ []))

abbrev pub verdict_by : Bytes → ℕ → Bytes → Answer ℕ
verdict_by store count id =
    maybe (value (verdict (held_view store count) id)) refused
    (first_failed (must 1 (store_long store && eqb (length id) 32) ∷ must2 store count ∷ must 9 (is_some ((held_view store count).find id)) ∷ []))

-- 1, 2, 10
abbrev pub report_by : {A : Type 0} → Bytes → ℕ → A → Bytes → Bytes → Report A
report_by store count a bytes out =
    report (first_failed (must 1 (store_long store) ∷ must2 store count ∷ must 10 (leb (length bytes) (length out)) ∷ [])) a bytes out

pub record ByConstant (store : Bytes) (count : ℕ) : Type 0 where
  pub start_same : (e : Bytes) → start_of document_table store e ≡ start_by store e
  pub take_same : (e : Bytes) → take_of document_table store count e ≡ take_by store count e
  pub bundle_same : (b : Bytes) → bundle_of document_table store count b ≡ bundle_by store count b
  pub look_up_same : (id : Bytes) → look_up_of document_table store count id ≡ look_up_by store count id
  pub verdict_same : (id : Bytes) → verdict_of document_table store count id ≡ verdict_by store count id
  pub order_same : (out : Bytes) → let v = held_view store count in
      order_of document_table store count out ≡ report_by store count (length (order v)) (order_bytes v) out
  pub map_same : (out : Bytes) → let v = held_view store count in
      map_of document_table store count out ≡ report_by store count (figures_of (machine v)) (map_bytes v) out
  pub written_same : (out : Bytes) → let v = held_view store count in
      written_of document_table store count out ≡ report_by store count (length (written_bytes v)) (written_bytes v) out
  pub text_same : (out : Bytes) → let text = room_text (held_view store count) in
      text_of document_table store count out ≡ report_by store count (length text) text out

abbrev pub DocumentTableKept : Type 0
DocumentTableKept = (store : Bytes) (count : ℕ) → ByConstant store count
