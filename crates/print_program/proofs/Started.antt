-- What the program writes, where a call refuses and where none does. The tactics find each at its goal, but for `start_refused`.
use Rattle.std.specs.Prelude.{ℕ, ◌≡◌, ◌≤◌, refl, length, take, Result, Ok, Err}
use Rattle.std.proofs.Common.{ap, ◌∙◌}
use Rattle.std.specs.Result.{IsErrAnd}
use Rattle.std.specs.Borrow.{Bor}
use borrow.Author.Tests.{le-leb}
use Rattle.lists.specs.Bytes.{Bytes}
use Rattle.event.specs.declared.Refusal.{Refusal}
use Rattle.event.specs.Answers.{value, refused, number_of, answer_of}
use Rattle.event.proofs.Exits.{at_exit}
use Rattle.cords.specs.DocumentTable.{document_table}
use Rattle.model.specs.Output.{overwritten, overwritten_front}
use Rattle.bundles.specs.FirstEvent.{first_of, first_part}
use Rattle.takes.specs.declared.Placed.{Placed}
use Rattle.takes.specs.declared.Taken.{Taken}
use Rattle.takes.specs.Takes.{taken_left, start_of}
use Rattle.text_format.specs.Text.{refusal_line}
use Rattle.reports.specs.Reports.{Report, answered}
use Rattle.print_program.specs.Page.{taken_text, started_text, file_text, shown}
use Rattle.print_program.proofs.FirstEvent.{first_refused, first_given}

-- there is no first event
pub none_refused : (b : Bor Bytes) (store out : Bytes) (r : Result ℕ Refusal) (k : Refusal) → length b.now ≤ 65536 → IsErrAnd r (λ x. x ≡ k)
    → refused (number_of k) ≡ first_part b (first_of b.now)
    → answered (answer_of r) out ≡ file_text b.now store out
unfolding file_text
none_refused b store out r k few exit first = rw (at_exit r k exit, le-leb (length b.now) 65536 few, first_refused b _ first) refl

-- the start refuses
pub start_refused : (b g : Bor Bytes) (table store out s : Bytes) (t : Taken Placed) (r : Result ℕ Refusal) (k : Refusal) → length b.now ≤ 65536
    → IsErrAnd r (λ x. x ≡ k) → value g ≡ first_part b (first_of b.now) → table ≡ document_table
    → taken_left t s ≡ start_of table store g.now → t.answer ≡ Err k
    → answered (answer_of r) out ≡ file_text b.now store out
unfolding file_text started_text
start_refused b g table store out s t r k few exit first lent start e = let given = first_given b g first in
    rw (at_exit r k exit, le-leb (length b.now) 65536 few, given.1, ← lent, ← given.2, ← start, e) refl

-- none refuses
pub started_taken : (b g : Bor Bytes) (table store out s : Bytes) (t : Taken Placed) (p : Placed) (x : Report ℕ) → length b.now ≤ 65536
    → value g ≡ first_part b (first_of b.now) → table ≡ document_table
    → taken_left t s ≡ start_of table store g.now → t.answer ≡ Ok p → x ≡ taken_text table b.now s t.count out
    → x ≡ file_text b.now store out
unfolding file_text started_text
started_taken b g table store out s t p x few first lent start e text = let given = first_given b g first in
    rw (le-leb (length b.now) 65536 few, given.1, ← lent, ← given.2, ← start, e) text

-- the line of a refusal
pub page_refused : (x : Report ℕ) (o d : Bytes) (k m n : ℕ) → n ≡ length (refusal_line m) → d ≡ overwritten (refusal_line m) o
    → m ≡ k → answered (refused k) o ≡ x → take n d ≡ shown x.answer x.out
page_refused x o d k m n long written is text =
    rw (← text) (overwritten_front _ _ _ _ long written ∙ ap refusal_line is)
