-- The row is put into the block, and its record ended.
use Rattle.spool_types.specs.declared.listing.Row.TheVariants.{Queue}
use Rattle.event_codec.specs.RowSpelling.{IsOrderedQueue}
use Rattle.listing_rows.specs.RowFilling.{filling_at}
use Rattle.std.proofs.Common.{refl}
use Rattle.split_rows.proofs.Written.{may_end, row_added}
use Rattle.split_rows.proofs.writing.Writing.put_queue.Goals as goal

pub end_row-requires : goal.end_row-requires
end_row-requires g c = record {
  may = may_end c.args.self.now.areas c.args.self.now.filler (record { gate = c.args.self.now.filler.gate; block = c.put_queue-start.new.block }) c.args.self.now.end c.put_queue-start.result (Queue c.args.queue.now) c.requires.may c.put_queue-start.ensures.put refl;
}

pub returns-clause-added : goal.returns-clause-added
returns-clause-added g c =
    row_added g.T.Disk.device c.args.self.now.areas c.args.self.now.filler.gate (Queue c.args.queue.now) c.args.self.now.filler.block c.put_queue-start.new.block c.put_queue-start.result (IsOrderedQueue c.args.queue.now)
    (filling_at c.end_row.new.self.areas c.end_row.new.self.filler) c.end_row.result c.put_queue-start.ensures.put c.put_queue-start.ensures.spellable c.end_row.ensures.added
