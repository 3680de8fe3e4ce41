use Rattle.std.proofs.Common.{◌≤◌, ◌∷◌, [], List, map, take, sym, subst, arith, Err, Ok, vec_capacity}
use Rattle.std.proofs.lemmas.List.{take_all}
use Rattle.spool_types.specs.declared.rows.QueueRow.{QueueRow}
use Rattle.spool_types.specs.declared.listing.Row.{Row}
use Rattle.spool_types.specs.declared.listing.Row.TheVariants.{Queue}
use Rattle.event_codec.specs.RowSpelling.{IsOrderedQueue}
use Rattle.listing_rows.specs.RowFilling.{block_room, filling_at, AddsRows}
use Rattle.listing_rows.proofs.RowLaws.{end_room, end_short, end_spare, end_whole, err_on, put_adds, put_back, put_on}
use Rattle.spool_core.proofs.AddLaws.{none_adds, none_on, queue_may, then_adds, then_on}
use Rattle.spool_core.proofs.ListingLaws.{all_at, queues_next}
use Rattle.spool_core.proofs.spool.filling.add_queues.Goals as goal

pub loop-queue-init : goal.loop-queue-init
loop-queue-init g c =
    let f = filling_at c.args.areas.now c.args.filler.now in
    record {
      on = none_on g.D.Disk.device g.met.D.Disk.lawful (map (λ q. Queue q) c.args.queues.now) f c.requires.may;
      adds = none_adds g.D.Disk.device g.met.D.Disk.lawful f;
      spare = omega arith;
    }

pub end_record-requires-clause-whole : goal.end_record-requires-clause-whole
end_record-requires-clause-whole g c =
    let v = g.D.Disk.device in
    let lawful = g.met.D.Disk.lawful in
    let qs = c.args.queues.now in
    let i = c.loop-queue.queue-index in
    let q = c.queue-item.result in
    let f = filling_at c.args.areas.now c.args.filler.now in
    let now = filling_at c.loop-queue.areas c.loop-queue.filler in
    let inv = c.loop-queue.invariant in
    let done = map (λ x. Queue x) (take i qs) in
    let may = queue_may v lawful qs i q c.loop-queue-test.true c.queue-item.is f now inv.on inv.adds c.requires.may in
    let block = c.loop-queue.filler.block in
    let put = c.put_queue-start.new.block in
    let start = c.put_queue-start.result in
    let is = c.put_queue-start.ensures.put in
    let spare : block_room ≤ vec_capacity block = omega (arith, c.requires.spare, inv.spare) in
    end_whole v c.loop-queue.areas c.loop-queue.filler.gate (Queue q) block put start may is spare

pub end_record-requires-clause-short : goal.end_record-requires-clause-short
end_record-requires-clause-short g c =
    let v = g.D.Disk.device in
    let lawful = g.met.D.Disk.lawful in
    let qs = c.args.queues.now in
    let i = c.loop-queue.queue-index in
    let q = c.queue-item.result in
    let f = filling_at c.args.areas.now c.args.filler.now in
    let now = filling_at c.loop-queue.areas c.loop-queue.filler in
    let inv = c.loop-queue.invariant in
    let done = map (λ x. Queue x) (take i qs) in
    let may = queue_may v lawful qs i q c.loop-queue-test.true c.queue-item.is f now inv.on inv.adds c.requires.may in
    let block = c.loop-queue.filler.block in
    let put = c.put_queue-start.new.block in
    let start = c.put_queue-start.result in
    let is = c.put_queue-start.ensures.put in
    let spare : block_room ≤ vec_capacity block = omega (arith, c.requires.spare, inv.spare) in
    end_short v c.loop-queue.areas c.loop-queue.filler.gate (Queue q) block put start may is spare

pub end_record-requires-clause-spare : goal.end_record-requires-clause-spare
end_record-requires-clause-spare g c =
    let v = g.D.Disk.device in
    let lawful = g.met.D.Disk.lawful in
    let qs = c.args.queues.now in
    let i = c.loop-queue.queue-index in
    let q = c.queue-item.result in
    let f = filling_at c.args.areas.now c.args.filler.now in
    let now = filling_at c.loop-queue.areas c.loop-queue.filler in
    let inv = c.loop-queue.invariant in
    let done = map (λ x. Queue x) (take i qs) in
    let may = queue_may v lawful qs i q c.loop-queue-test.true c.queue-item.is f now inv.on inv.adds c.requires.may in
    let block = c.loop-queue.filler.block in
    let put = c.put_queue-start.new.block in
    let start = c.put_queue-start.result in
    let is = c.put_queue-start.ensures.put in
    let spare : block_room ≤ vec_capacity block = omega (arith, c.requires.spare, inv.spare) in
    end_spare v c.loop-queue.areas c.loop-queue.filler.gate (Queue q) block put start may is spare

pub end_record-requires-clause-behind : goal.end_record-requires-clause-behind
end_record-requires-clause-behind g c =
    let v = g.D.Disk.device in
    let lawful = g.met.D.Disk.lawful in
    let qs = c.args.queues.now in
    let i = c.loop-queue.queue-index in
    let q = c.queue-item.result in
    let f = filling_at c.args.areas.now c.args.filler.now in
    let now = filling_at c.loop-queue.areas c.loop-queue.filler in
    let inv = c.loop-queue.invariant in
    let done = map (λ x. Queue x) (take i qs) in
    let may = queue_may v lawful qs i q c.loop-queue-test.true c.queue-item.is f now inv.on inv.adds c.requires.may in
    let block = c.loop-queue.filler.block in
    let put = c.put_queue-start.new.block in
    let start = c.put_queue-start.result in
    let is = c.put_queue-start.ensures.put in
    let spare : block_room ≤ vec_capacity block = omega (arith, c.requires.spare, inv.spare) in
    may.behind

pub end_record-requires-clause-room : goal.end_record-requires-clause-room
end_record-requires-clause-room g c =
    let v = g.D.Disk.device in
    let lawful = g.met.D.Disk.lawful in
    let qs = c.args.queues.now in
    let i = c.loop-queue.queue-index in
    let q = c.queue-item.result in
    let f = filling_at c.args.areas.now c.args.filler.now in
    let now = filling_at c.loop-queue.areas c.loop-queue.filler in
    let inv = c.loop-queue.invariant in
    let done = map (λ x. Queue x) (take i qs) in
    let may = queue_may v lawful qs i q c.loop-queue-test.true c.queue-item.is f now inv.on inv.adds c.requires.may in
    let block = c.loop-queue.filler.block in
    let put = c.put_queue-start.new.block in
    let start = c.put_queue-start.result in
    let is = c.put_queue-start.ensures.put in
    let spare : block_room ≤ vec_capacity block = omega (arith, c.requires.spare, inv.spare) in
    end_room v c.loop-queue.areas c.loop-queue.filler.gate (Queue q) block put start may is spare

pub returns-in_err-end_record-clause-on : goal.returns-in_err-end_record-clause-on
returns-in_err-end_record-clause-on g c =
    let v = g.D.Disk.device in
    let lawful = g.met.D.Disk.lawful in
    let qs = c.args.queues.now in
    let i = c.loop-queue.queue-index in
    let q = c.queue-item.result in
    let f = filling_at c.args.areas.now c.args.filler.now in
    let now = filling_at c.loop-queue.areas c.loop-queue.filler in
    let inv = c.loop-queue.invariant in
    let done = map (λ x. Queue x) (take i qs) in
    let may = queue_may v lawful qs i q c.loop-queue-test.true c.queue-item.is f now inv.on inv.adds c.requires.may in
    let block = c.loop-queue.filler.block in
    let put = c.put_queue-start.new.block in
    let start = c.put_queue-start.result in
    let is = c.put_queue-start.ensures.put in
    let spare : block_room ≤ vec_capacity block = omega (arith, c.requires.spare, inv.spare) in
    let end = filling_at c.end_record.new.areas c.end_record.new.filler in
    let e = c.in_err-end_record.field-0.0 in
    err_on v f end e _ c.from_residual.result c.from_residual.ensures.1
    (then_on v lawful f now inv.on done inv.adds end (Err e) (put_on v c.loop-queue.areas c.loop-queue.filler.gate (Queue q) block put start is end (Err e) c.in_err-end_record.ensures.on))

pub loop-queue-preserved : goal.loop-queue-preserved
loop-queue-preserved g c =
    let v = g.D.Disk.device in
    let lawful = g.met.D.Disk.lawful in
    let qs = c.args.queues.now in
    let i = c.loop-queue.queue-index in
    let q = c.queue-item.result in
    let f = filling_at c.args.areas.now c.args.filler.now in
    let now = filling_at c.loop-queue.areas c.loop-queue.filler in
    let inv = c.loop-queue.invariant in
    let done = map (λ x. Queue x) (take i qs) in
    let may = queue_may v lawful qs i q c.loop-queue-test.true c.queue-item.is f now inv.on inv.adds c.requires.may in
    let block = c.loop-queue.filler.block in
    let put = c.put_queue-start.new.block in
    let start = c.put_queue-start.result in
    let is = c.put_queue-start.ensures.put in
    let spare : block_room ≤ vec_capacity block = omega (arith, c.requires.spare, inv.spare) in
    let end = filling_at c.end_record.new.areas c.end_record.new.filler in
    let ordered = subst IsOrderedQueue (sym c.queue-item.is) (all_at IsOrderedQueue qs i q c.loop-queue-test.true c.requires.ordered) in
    record {
      on = then_on v lawful f now inv.on done inv.adds end (Ok tt) (put_on v c.loop-queue.areas c.loop-queue.filler.gate (Queue q) block put start is end (Ok tt) c.in_ok-end_record.ensures.on);
      adds = subst (λ (rows : List Row). AddsRows v rows f end) (sym (queues_next qs i q c.loop-queue-test.true c.queue-item.is))
          (then_adds v lawful f now inv.on done inv.adds end (Queue q ∷ [])
          (put_adds v c.loop-queue.areas c.loop-queue.filler.gate (Queue q) block put start is end
          (c.in_ok-end_record.ensures.added (Queue q) (put_back (Queue q) block put start is) (c.put_queue-start.ensures.spellable ordered))));
      spare = omega (arith, inv.spare, is.spare, c.end_record.ensures.spare);
    }

pub returns-clause-added : goal.returns-clause-added
returns-clause-added g c =
    let qs = c.args.queues.now in
    let i = c.loop-queue.queue-index in
    subst (λ (l : List QueueRow). AddsRows g.D.Disk.device (map (λ q. Queue q) l) (filling_at c.args.areas.now c.args.filler.now) (filling_at c.loop-queue.areas c.loop-queue.filler)) (take_all i qs (omega (arith, c.loop-queue-test.false)))
    c.loop-queue.invariant.adds
