-- No entry is for this job.
use Rattle.std.proofs.Common.{refl}
use Rattle.decision_tests.proofs.indexes.add.Goals as goal

pub insert-requires-clause-absent : goal.insert-requires-clause-absent
insert-requires-clause-absent c = c.in-None.ensures.absent refl
