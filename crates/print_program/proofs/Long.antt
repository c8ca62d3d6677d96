-- The text of a file above the limit. The tactics find it at its goal, whatever that goal is called.
use Rattle.std.specs.Prelude.{◌≡◌, ◌<◌, length}
use borrow.Author.Tests.{lt-leb}
use Rattle.lists.specs.Bytes.{Bytes}
use Rattle.event.specs.Answers.{refused}
use Rattle.reports.specs.Reports.{answered}
use Rattle.print_program.specs.Page.{file_text}

pub long_refused : (file store out : Bytes) → 65536 < length file → answered (refused 8) out ≡ file_text file store out
unfolding file_text
long_refused file store out long = rw (lt-leb _ _ long)
