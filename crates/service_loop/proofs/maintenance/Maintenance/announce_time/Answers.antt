-- The examination of the table leaves the engine and the limit, and the command follows.
use Rattle.service_loop.proofs.CallLaws.{within_kept, within_none, within_since}
use Rattle.service_loop.proofs.maintenance.Maintenance.announce_time.Goals as goal

pub returns-in_err-look_anew-clause-calls : goal.returns-in_err-look_anew-clause-calls
returns-in_err-look_anew-clause-calls g c = within_kept g.D.Disk.device _ _ _ _ _ _ (within_none g.D.Disk.device _ _) c.look_anew.ensures.engine c.look_anew.ensures.most

pub returns-in_default-clock_to_announce-clause-calls : goal.returns-in_default-clock_to_announce-clause-calls
returns-in_default-clock_to_announce-clause-calls g c = within_kept g.D.Disk.device _ _ _ _ _ _ (within_none g.D.Disk.device _ _) c.look_anew.ensures.engine c.look_anew.ensures.most

pub returns-in_err-say-clause-calls : goal.returns-in_err-say-clause-calls
returns-in_err-say-clause-calls g c = within_since g.D.Disk.device _ _ _ _ _ _ c.look_anew.ensures.engine c.look_anew.ensures.most c.say.ensures.calls

pub returns-clause-calls : goal.returns-clause-calls
returns-clause-calls g c = within_since g.D.Disk.device _ _ _ _ _ _ c.look_anew.ensures.engine c.look_anew.ensures.most c.say.ensures.calls
