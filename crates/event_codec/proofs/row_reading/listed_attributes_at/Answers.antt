use Rattle.std.proofs.Common.{◌∷◌, [], Some, None, map, arith, length-append}
use Rattle.std.proofs.lemmas.Result.{err_from_is_err_and}
use Rattle.event_codec.specs.EventReading.{list_at}
use Rattle.event_codec.specs.RowSpelling.{name_of}
use Rattle.event_codec.specs.RowReading.{last_of, attribute_after}
use Rattle.event_codec.proofs.Loop.{front_starts, goes_on, ends, is_done}
use Rattle.event_codec.proofs.OrderLaws.{last_name_pushed}
use Rattle.event_codec.proofs.row_reading.listed_attributes_at.Goals as goal

pub loop-init : goal.loop-init
loop-init c = rw c.in_ok-attributes.ensures.items (front_starts attribute_after c.args.count (None, c.args.bytes.now))

pub returns-in_err-attribute-clause-read : goal.returns-in_err-attribute-clause-read
returns-in_err-attribute-clause-read c =
    let p = err_from_is_err_and c.from_residual-in_err-attribute.result c.from_residual-in_err-attribute.ensures.1 in
    rw (p.1, p.2) (ends c.in_err-attribute.field-0.0 attribute_after c.loop.attributes.items c.args.count c.loop.counter (last_of (map name_of c.loop.attributes.items), c.loop.rest.now) (list_at attribute_after c.args.count (None, c.args.bytes.now)) c.loop-test.true (rw c.deref.ensures.value at c.in_err-attribute.ensures) c.loop.invariant.read)

pub loop-preserved : goal.loop-preserved
loop-preserved c =
    let x = c.in_ok-attribute.attribute in
    let read = goes_on attribute_after c.loop.attributes.items c.args.count c.loop.counter (last_of (map name_of c.loop.attributes.items), c.loop.rest.now) x (Some x.name, c.in_ok-attribute.after.now) (list_at attribute_after c.args.count (None, c.args.bytes.now)) c.loop-test.true (rw c.deref.ensures.value at c.in_ok-attribute.ensures) c.loop.invariant.read in
    rw (c.in_ok-push.ensures.items, last_name_pushed c.loop.attributes.items x) (record {
      read = read;
      counted = omega (arith, c.loop.invariant.counted, length-append c.loop.attributes.items (x ∷ []));
    })

pub returns-clause-read : goal.returns-clause-read
returns-clause-read c = is_done attribute_after c.loop.attributes.items c.args.count c.loop.counter (last_of (map name_of c.loop.attributes.items), c.loop.rest.now) (list_at attribute_after c.args.count (None, c.args.bytes.now)) c.loop-test.false c.loop.invariant.read
