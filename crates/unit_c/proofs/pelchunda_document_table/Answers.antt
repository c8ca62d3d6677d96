use Rattle.std.proofs.Common.{rules, arith, length, refl}
use borrow.Author.Tests.{lt-leb}
use Rattle.unit_c.specs.Numbers.{document_of}
use Rattle.unit_c.proofs.IdsWritten.{shown_front}
use Rattle.unit_c.proofs.pelchunda_document_table.Goals as goal

pub returns : goal.returns
unfolding document_of
returns c = shown_front _ _ _ _ _ _ _ (search rules) c.document_table.ensures.bytes c.write.ensures c.number.ensures

pub returns-then-out-lt-TABLE_BYTES : goal.returns-then-out-lt-TABLE_BYTES
unfolding document_of
returns-then-out-lt-TABLE_BYTES c = rw (lt-leb 512 (length c.args.out.now) (omega (arith, c.if-out-lt-TABLE_BYTES.true)), c.from.ensures) refl
