use native.Mathlib.Omega.{arith}
use Rattle.text_format.specs.Text.{head_line}
use Rattle.text_format.proofs.TextWritten.{at_front, behind, field_five}
use lib.ListN.{length-append}
use Rattle.text_format.proofs.write_head.Goals as goal

pub returns-clause-written : goal.returns-clause-written
unfolding head_line
returns-clause-written c = grind (arith, at_front, behind, field_five, length-append)
