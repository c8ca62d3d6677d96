use mathlib.Core.Path.{◌∙◌}
use Rattle.cords.proofs.Table.{lengths}
use Rattle.cords.specs.DocumentTable.{document_entry, document_good}
use Rattle.cords.proofs.LengthBytes.{document_bytes}
use Rattle.cords.proofs.document_table.Goals as goal

pub returns : goal.returns
unfolding lengths
returns c = let is = c.to_bytes.ensures ∙ document_bytes in
    record { bytes = is; rule = (rw is document_good, λ a b. rw is (document_entry a b)) }
