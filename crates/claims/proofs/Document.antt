-- Document 01's table passes check 12 and has the constant's entries, so each call is what the constant table makes it.
use Prim.Native.Nat.{ℕ}
use mathlib.Core.Path.{◌≡◌, refl, ap, ◌∙◌}
use mathlib.Core.List.{List, [], ◌∷◌}
use Rattle.lists.specs.Bytes.{Bytes}
use Rattle.cords.specs.DocumentTable.{document_table, document_entries, document_good}
use Rattle.store.specs.LookUp.{look_up_of}
use Rattle.takes.specs.declared.Placed.{Placed}
use Rattle.takes.specs.Takes.{Left, start_of, take_answer, take_of, counted, Run, step, run_of, bundle_of}
use Rattle.reports.specs.Reports.{order_of, map_of, written_of, verdict_of}
use Rattle.text.specs.Text.{text_of}
use Rattle.claims.specs.Document.{take_by, step_by, run_by, DocumentTableKept}

take_is : (store : Bytes) (count : ℕ) (e : Bytes) → take_of document_table store count e ≡ take_by store count e
unfolding take_of take_answer
take_is store count e = rw (document_good, document_entries)

step_is : (r : Run) (e : Bytes) → step document_table r e ≡ step_by r e
unfolding step
step_is r e =
    ap (λ (left : Left Placed). record { figures = counted r.figures left.answer; count = left.count; store = left.store })
    (take_is r.store r.count e)

run_is : (r : Run) (es : List Bytes) → run_of document_table r es ≡ run_by r es
unfolding run_of
run_is r [] = refl
run_is r (e ∷ es) = run_is (step document_table r e) es ∙ ap (λ (x : Run). run_by x es) (step_is r e)

pub document_table_kept : DocumentTableKept
unfolding start_of bundle_of look_up_of verdict_of order_of map_of written_of text_of
document_table_kept store count =
    record {
      start_same = λ e. rw document_good;
      take_same = take_is store count;
      bundle_same = λ b. rw (document_good, document_entries, run_is);
      look_up_same = λ id. rw (document_good, document_entries);
      verdict_same = λ id. rw (document_good, document_entries);
      order_same = λ out. rw (document_good, document_entries);
      map_same = λ out. rw (document_good, document_entries);
      written_same = λ out. rw (document_good, document_entries);
      text_same = λ out. rw (document_good, document_entries);
    }
