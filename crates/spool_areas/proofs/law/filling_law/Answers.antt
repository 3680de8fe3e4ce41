use Rattle.spool_areas.proofs.Fillings.{fills_still, fills_now}
use Rattle.spool_areas.proofs.law.filling_law.Goals as goal

pub returns-clause-still : goal.returns-clause-still
returns-clause-still g c x now new gate block rows still f = fills_still g.D.Disk.device g.met.D.Disk.lawful x now new gate block rows still f

pub returns-clause-leaves : goal.returns-clause-leaves
returns-clause-leaves g c x now gate block rows f = fills_now g.D.Disk.device g.met.D.Disk.lawful x now gate block rows f
