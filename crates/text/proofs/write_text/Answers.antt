use Prim.Native.Nat.{◌*◌}
use native.Mathlib.Omega.{arith}
use mathlib.Core.Path.{refl, sym}
use lib.Seq.{length-take-le}
use Rattle.std.proofs.lemmas.List.{take-map}
use Rattle.event.proofs.Exits.{at_exit}
use Rattle.verdicts.specs.Numbers.{verdict_number}
use Rattle.text.proofs.HeldText.{rows_few, text-refused, text_told}
use Rattle.text.proofs.write_text.Goals as goal

pub returns-in_err-linked : goal.returns-in_err-linked
returns-in_err-linked c = rw (at_exit c.from_residual.result _ c.from_residual.ensures.1) (text-refused c.args.out.now c.in_err-linked.ensures)

pub overflow_mul-rows : goal.overflow_mul-rows
overflow_mul-rows c = let few = rows_few c.in_ok-linked.ensures.left c.write_rows-n.ensures in omega (arith, few)

pub slice_bounds-rows-end : goal.slice_bounds-rows-end
slice_bounds-rows-end c = let few = rows_few c.in_ok-linked.ensures.left c.write_rows-n.ensures in omega (arith, few)

pub slice_bounds-rows-end-2 : goal.slice_bounds-rows-end-2
slice_bounds-rows-end-2 c = let few = rows_few c.in_ok-linked.ensures.left c.write_rows-n.ensures in
    sym (length-take-le (c.write_rows-n.result * 8) c.write_rows-n.new.out (omega (arith, few)))

pub returns : goal.returns
returns c = let text = text_told c.args.out.now c.in_ok-linked.ensures (λ i. (c.type_inv.table i).fits) c.write_rows-n.ensures refl
    (sym (take-map verdict_number c.args.count c.linked.new.verdicts)) c.write_text.result
    (c.write_text.ensures.answer, c.write_text.ensures.output) in
    rw c.ok_or.ensures.value text
