use Rattle.std.proofs.Common.{rules}
use native.Mathlib.Omega.{arith}
use Rattle.std.proofs.lemmas.Fmt.{length-decimal-le}
use Rattle.text_format.proofs.Numbers.{five_digits}
use Rattle.text_format.proofs.digits.Goals as goal

pub write_digits-start-requires : goal.write_digits-start-requires
write_digits-start-requires c = search (rules, length-decimal-le 5)

pub returns : goal.returns
returns c = let w = c.write_digits-start in
    let all = five_digits c.args.n w.result w.new.buf (omega arith) (cc) (cc) (cc) in record { five = all.0; number = all.1 }
