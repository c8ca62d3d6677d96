-- What the printing program writes for a room.bun. `table` is the cord table that it lends.
use Rattle.std.specs.Prelude.{ℕ, cond, [], leb, length, get_or, take}
use Rattle.lists.specs.Bytes.{Bytes}
use Rattle.event.specs.Answers.{Answer, value, refused}
use Rattle.cords.specs.DocumentTable.{document_table}
use Rattle.model.specs.Bundle.{events_in}
use Rattle.bundles.specs.FirstEvent.{first_of}
use Rattle.takes.specs.Takes.{start_of, bundle_of}
use Rattle.text_format.specs.Text.{refusal_line}
use Rattle.reports.specs.Reports.{Report, answered}
use Rattle.text.specs.Text.{text_of}

-- the tests go on where nothing is refused; else the output stays as it was
abbrev pub unless_refused : {A : Type 0} → Answer A → (A → Report ℕ) → Bytes → Report ℕ
unless_refused (value a) next out = next a
unless_refused (refused n) next out = answered (refused n) out

-- "and takes it all"; then the text of the events held
unfoldable pub taken_text : Bytes → Bytes → Bytes → ℕ → Bytes → Report ℕ
taken_text table file store count out =
    let taken = bundle_of table store count file in
    text_of table taken.store taken.count out

-- "starts with its first event"
unfoldable pub started_text : Bytes → Bytes → Bytes → Bytes → Bytes → Report ℕ
started_text table file first store out =
    let started = start_of table store first in
    unless_refused started.answer (λ placed. taken_text table file started.store started.count out) out

-- "The printing program reads room.bun (absent or above 65,536 bytes: refusal 8), starts with its first event (none: refusal 5)"; F-4: "The
-- printing program lends document 01's table."
unfoldable pub file_text : Bytes → Bytes → Bytes → Report ℕ
file_text file store out =
    cond (leb (length file) 65536)
    (unless_refused (first_of file) (λ at. started_text document_table file (get_or (events_in file) 0 []) store out) out)
    (answered (refused 8) out)

-- what is written of a text, or "a refusal writes "REFUSED " and the number"
abbrev pub shown : Answer ℕ → Bytes → Bytes
shown (value n) out = take n out
shown (refused n) out = refusal_line n

abbrev pub page_of : Bytes → Bytes → Bytes → Bytes
page_of file store out = let r = file_text file store out in shown r.answer r.out
