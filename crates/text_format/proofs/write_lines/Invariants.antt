use Rattle.std.proofs.Common.{◌≡◌, ◌*◌, ◌/◌, ◌≤◌, length, drop}
use Rattle.std.specs.Slice.Iter.{chunks_exact_rest, chunks_exact_size}
use Rattle.octets.specs.Octets.{pasted}
use Rattle.text_format.proofs.TextWritten.{lines}
use Rattle.text_format.proofs.write_lines.Given as goal

abbrev pub invariant-loop-i : goal.invariant-loop-i
invariant-loop-i l = record {
  size : chunks_exact_size l.i-iterator.iter ≡ 8;
  rest : chunks_exact_rest l.i-iterator.iter ≡ drop (l.i-iterator.count * 8) l.rows;
  within : l.i-iterator.count ≤ length l.rows / 8;
  written : l.out ≡ pasted l.initial.out l.at (lines l.rows l.i-iterator.count);
}
