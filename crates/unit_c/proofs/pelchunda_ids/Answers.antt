use Prim.Native.Nat.{◌*◌, ◌/◌}
use lib.Dec.{eqb, leb}
use lib.ListN.{length}
use borrow.Author.Tests.{leb-true}
use Rattle.lists.specs.Cases.{and→}
use Rattle.unit_c.proofs.IdsWritten.{ids-written}
use Rattle.unit_c.proofs.pelchunda_ids.Goals as goal

pub find_ids-requires : goal.find_ids-requires
find_ids-requires c = let events = length c.args.events.now in
    let whole = c.if-not-events-n.false in
    let few = leb-true (events / 192) 256 (and→ (eqb events (events / 192 * 192)) (leb (events / 192) 256) whole).1 in
    (few, c.if-ids-n.false)

pub returns : goal.returns
returns c = let a = c.args in
    let events = length a.events.now in
    let whole = c.if-not-events-n.false in
    let made = c.find_ids.ensures in
    ids-written a.events.now a.ids.now _ whole c.if-ids-n.false made.ids made.rest
