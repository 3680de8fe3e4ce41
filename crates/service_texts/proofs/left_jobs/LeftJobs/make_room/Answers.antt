-- Those that are not incoming were removed.
use Rattle.std.proofs.Common.{ap, ◌∙◌}
use Rattle.service_texts.specs.LeftJobs.{still_incoming}
use Rattle.service_texts.proofs.LeftLaws.{still_twice}
use Rattle.service_texts.proofs.left_jobs.LeftJobs.make_room.Goals as goal

pub returns-then-len-capacity : goal.returns-then-len-capacity
returns-then-len-capacity c = ap (still_incoming c.args.table.now.state) c.keep_incoming.ensures ∙ still_twice c.args.table.now.state c.args.self.now
