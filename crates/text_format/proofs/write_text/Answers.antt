use native.Mathlib.Omega.{arith}
use mathlib.Core.List.{map}
use Rattle.verdicts.specs.Numbers.{verdict_number}
use Rattle.text_format.proofs.TextWritten.{text_short, text_written}
use Rattle.text_format.proofs.write_text.Goals as goal

pub returns-then-out-size : goal.returns-then-out-size
returns-then-out-size c = let a = c.args in
    let all = text_short a.rows.now (map verdict_number a.verdicts.now) a.out.now c.write_counts-at.result (cc) (omega arith) in record { answer = all.0; output = all.1 }

pub returns : goal.returns
returns c = let a = c.args in
    let k = c.write_counts-at in
    let all = text_written a.rows.now (map verdict_number a.verdicts.now) a.out.now k.result (cc) _
    k.new.out c.paste.new.dst c.write_lines.new.out
    (omega arith) k.ensures.written (cc) (cc) in record { answer = all.0; output = all.1 }
