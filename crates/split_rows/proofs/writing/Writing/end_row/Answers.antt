-- More rows may be written after the record.
use Rattle.split_rows.proofs.Written.{may_write}
use Rattle.split_rows.proofs.writing.Writing.end_row.Goals as goal

pub returns-in-Ok-clause-may : goal.returns-in-Ok-clause-may
returns-in-Ok-clause-may g c =
    may_write g.T.Disk.device c.args.self.now.areas c.end_record.new.areas c.args.self.now.filler c.end_record.new.filler c.args.self.now.end c.args.start c.requires.may c.in-Ok.ensures.on c.end_record.ensures.spare
