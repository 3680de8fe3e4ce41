use Rattle.std.proofs.Common.{arith}
use Rattle.spool_areas.proofs.Plans.{room_is}
use Rattle.spool_areas.proofs.room.have_room_by_sum.Goals as goal

pub returns-clause-exact : goal.returns-clause-exact
returns-clause-exact c payloads is = room_is c.args.end c.args.first c.args.sum payloads c.requires (omega arith) is
