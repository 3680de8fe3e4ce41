use Rattle.spool_areas.proofs.Made.{close_both, closed_still}
use Rattle.spool_areas.proofs.making.close_headers.Goals as goal

pub returns-clause-any_moment : goal.returns-clause-any_moment
returns-clause-any_moment g c =
    closed_still g.D.Disk.device g.met.D.Disk.lawful c.args.disk.now c.write-2.new.self c.sync.new.self c.args.half
    (close_both g.D.Disk.device g.met.D.Disk.lawful c.args.disk.now c.write.new.self c.write-2.new.self c.args.half c.write.ensures.changes.images c.write-2.ensures.changes.images)
    c.sync.ensures.same.images
