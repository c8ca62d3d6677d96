use Rattle.std.proofs.Common.{◌/◌, length, arith, ap, ◌∙◌}
use Rattle.std.specs.Slice.Iter.{chunks_exact_rest}
use Rattle.octets.specs.Octets.{pasted}
use Rattle.text_format.proofs.TextWritten.{lines_start, row_next, no_row, lines_turn, lines_end}
use Rattle.text_format.proofs.write_lines.Goals as goal

pub loop-i-init : goal.loop-i-init
loop-i-init c = let a = c.args in
    let it = c.into_iter-i-iterator.ensures.into_iter_gives in
    let e = c.enumerate-i-items.ensures in
    let k = c.chunks_exact.ensures in
    record {
      size = rw (it, e.source) k.size;
      rest = rw (it, e.source, e.count) k.rest;
      within = rw (it, e.count) (omega arith);
      written = rw (it, e.count) (lines_start a.rows.now a.out.now a.at (omega arith));
    }

pub loop-i-preserved : goal.loop-i-preserved
loop-i-preserved c = let l = c.loop-i in
    let a = c.args in
    let w = l.invariant in
    let k = l.i-iterator.count in
    let steps = c.in-Some.ensures.steps in
    let next = row_next a.rows.now (chunks_exact_rest l.i-iterator.iter) c.in-Some.row.now (chunks_exact_rest c.next.new.self.iter) k
    w.rest steps.0.1.0 (steps.0.1.1 ∙ w.size) in
    let turn = lines_turn a.rows.now a.out.now l.out c.paste.new.dst c.row_line.result a.at k (length a.rows.now / 8) next.2 c.requires w.written (cc) (cc) in
    record {
      size = steps.0.0 ∙ w.size;
      rest = rw steps.2 next.1;
      within = omega (arith, steps.2, next.2);
      written = rw steps.2 turn;
    }

pub returns : goal.returns
returns c = let l = c.loop-i in
    let a = c.args in
    let w = l.invariant in
    let steps = c.in-None.ensures.steps in
    w.written ∙ ap (pasted a.out.now a.at) (lines_end a.rows.now l.i-iterator.count (no_row a.rows.now (chunks_exact_rest l.i-iterator.iter) l.i-iterator.count w.rest w.within (omega (arith, steps.0.1.0, w.size))))
