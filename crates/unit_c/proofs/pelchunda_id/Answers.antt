use Rattle.std.proofs.Common.{rules, length, refl}
use borrow.Author.Tests.{eq-eqb, lt-leb}
use Rattle.unit_c.specs.Numbers.{id_of}
use Rattle.unit_c.proofs.IdsWritten.{shown_front}
use Rattle.unit_c.proofs.pelchunda_id.Goals as goal

pub returns : goal.returns
unfolding id_of
returns c =
    rw (eq-eqb _ _ c.if-event-ne-EVENT_BYTES.false)
    (shown_front _ _ _ _ _ _ _ (search rules) c.event_id.ensures c.write.ensures c.number.ensures)

pub returns-then-id-lt-ID_BYTES : goal.returns-then-id-lt-ID_BYTES
unfolding id_of
returns-then-id-lt-ID_BYTES c =
    rw (eq-eqb _ _ c.if-event-ne-EVENT_BYTES.false, lt-leb 32 (length c.args.id.now) c.if-id-lt-ID_BYTES.true, c.from-then-id-lt-ID_BYTES.ensures) refl
