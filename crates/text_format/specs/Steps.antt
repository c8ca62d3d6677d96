-- What the contract of an inner function names.
use Rattle.std.specs.Prelude.{ℕ, List}
use Rattle.lists.specs.Bytes.{Bytes}
use Rattle.text_format.specs.Text.{head_line, how_many}

-- the first line for some links and verdicts
unfoldable pub head_of : ℕ → List ℕ → Bytes
head_of links verdicts = head_line links (how_many 0 verdicts) (how_many 1 verdicts) (how_many 2 verdicts)
