use Rattle.std.proofs.Common.{arith}
use Rattle.spool_disk.proofs.Moments.{wider_change, then_changes}
use Rattle.spool_areas.proofs.making.fill_first.Goals as goal

pub returns-in_err-write-clause-changes : goal.returns-in_err-write-clause-changes
returns-in_err-write-clause-changes g c = wider_change g.D.Disk.device c.args.disk.now c.write.new.self _ _ _ _ (omega arith) (omega arith) c.write.ensures.changes

pub returns-in_err-begin-clause-changes : goal.returns-in_err-begin-clause-changes
returns-in_err-begin-clause-changes g c =
    then_changes g.D.Disk.device c.args.disk.now c.write.new.self c.begin.new.disk 1 16 g.met.D.Disk.lawful
    (wider_change g.D.Disk.device c.args.disk.now c.write.new.self _ _ _ _ (omega arith) (omega arith) c.write.ensures.changes)
    (wider_change g.D.Disk.device c.write.new.self c.begin.new.disk _ _ _ _ (omega arith) (omega arith) c.begin.ensures.changes)

pub returns-clause-changes : goal.returns-clause-changes
returns-clause-changes g c =
    then_changes g.D.Disk.device c.args.disk.now c.write.new.self c.begin.new.disk 1 16 g.met.D.Disk.lawful
    (wider_change g.D.Disk.device c.args.disk.now c.write.new.self _ _ _ _ (omega arith) (omega arith) c.write.ensures.changes)
    (wider_change g.D.Disk.device c.write.new.self c.begin.new.disk _ _ _ _ (omega arith) (omega arith) c.begin.ensures.changes)
