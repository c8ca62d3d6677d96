-- "The first line counts links and verdicts ..; then one line a map row": what the call text answers, and the output that it leaves.
-- `table` is the lent cord table.
use Rattle.std.specs.Prelude.{ℕ, length}
use Rattle.lists.specs.Bytes.{Bytes}
use Rattle.event.specs.Answers.{first_failed}
pub use Rattle.text_format.specs.Text.{room_text}
use Rattle.reports.specs.Reports.{held_view, write_tests, Report, report}

-- the text of the events held; the answer is the number of its bytes
unfoldable pub text_of : Bytes → Bytes → ℕ → Bytes → Report ℕ
text_of table store count out =
    let text = room_text (held_view store count) in
    report (first_failed (write_tests table store count text out)) (length text) text out
