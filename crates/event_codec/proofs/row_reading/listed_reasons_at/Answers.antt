use Rattle.std.proofs.Common.{◌∷◌, [], Some, None, arith, length-append}
use Rattle.std.proofs.lemmas.Result.{err_from_is_err_and}
use Rattle.event_codec.specs.EventReading.{list_at}
use Rattle.event_codec.specs.RowReading.{last_of, reason_after}
use Rattle.event_codec.proofs.Loop.{front_starts, goes_on, ends, is_done}
use Rattle.event_codec.proofs.OrderLaws.{last_pushed}
use Rattle.event_codec.proofs.row_reading.listed_reasons_at.Goals as goal

pub loop-init : goal.loop-init
loop-init c = rw c.in_ok-reasons.ensures.items (front_starts reason_after c.args.count (None, c.args.bytes.now))

pub returns-in_err-reason-clause-read : goal.returns-in_err-reason-clause-read
returns-in_err-reason-clause-read c =
    let p = err_from_is_err_and c.from_residual-in_err-reason.result c.from_residual-in_err-reason.ensures.1 in
    rw (p.1, p.2) (ends c.in_err-reason.field-0.0 reason_after c.loop.reasons.items c.args.count c.loop.counter (last_of c.loop.reasons.items, c.loop.rest.now) (list_at reason_after c.args.count (None, c.args.bytes.now)) c.loop-test.true (rw c.deref.ensures.value at c.in_err-reason.ensures) c.loop.invariant.read)

pub loop-preserved : goal.loop-preserved
loop-preserved c =
    let x = c.in_ok-reason.reason in
    let read = goes_on reason_after c.loop.reasons.items c.args.count c.loop.counter (last_of c.loop.reasons.items, c.loop.rest.now) x (Some x, c.in_ok-reason.after.now) (list_at reason_after c.args.count (None, c.args.bytes.now)) c.loop-test.true (rw c.deref.ensures.value at c.in_ok-reason.ensures) c.loop.invariant.read in
    rw (c.in_ok-push.ensures.items, last_pushed c.loop.reasons.items x) (record {
      read = read;
      counted = omega (arith, c.loop.invariant.counted, length-append c.loop.reasons.items (x ∷ []));
    })

pub returns-clause-read : goal.returns-clause-read
returns-clause-read c = is_done reason_after c.loop.reasons.items c.args.count c.loop.counter (last_of c.loop.reasons.items, c.loop.rest.now) (list_at reason_after c.args.count (None, c.args.bytes.now)) c.loop-test.false c.loop.invariant.read
