use Rattle.std.proofs.Common.{arith, length}
use Rattle.print_program.proofs.Started.{start_refused}
use Rattle.print_program.proofs.write_file.Goals as goal

pub returns-in_err-started : goal.returns-in_err-started
returns-in_err-started c = let exit = c.from_residual-in_err-started.ensures.1 in
    let first = c.in_ok-first.ensures in
    start_refused _ _ _ _ _ _ _ _ _ (omega arith) exit first c.document_table-table.ensures.bytes c.start-started.ensures c.in_err-started.was
