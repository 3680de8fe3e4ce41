-- The row is put into the block, and its record ended.
use Rattle.event_codec.specs.RowSpelling.{IsLegalRow}
use Rattle.listing_rows.specs.RowFilling.{filling_at}
use Rattle.std.proofs.Common.{refl}
use Rattle.split_rows.proofs.Written.{may_end, row_added}
use Rattle.split_rows.proofs.writing.Writing.put_row.Goals as goal

pub end_row-requires : goal.end_row-requires
end_row-requires g c = record {
  may = may_end c.args.self.now.areas c.args.self.now.filler (record { gate = c.args.self.now.filler.gate; block = c.put_row-start.new.block }) c.args.self.now.end c.put_row-start.result c.args.row.now c.requires.may c.put_row-start.ensures.put refl;
}

pub returns-clause-added : goal.returns-clause-added
returns-clause-added g c =
    row_added g.T.Disk.device c.args.self.now.areas c.args.self.now.filler.gate c.args.row.now c.args.self.now.filler.block c.put_row-start.new.block c.put_row-start.result (IsLegalRow c.args.row.now)
    (filling_at c.end_row.new.self.areas c.end_row.new.self.filler) c.end_row.result c.put_row-start.ensures.put c.put_row-start.ensures.spellable c.end_row.ensures.added
