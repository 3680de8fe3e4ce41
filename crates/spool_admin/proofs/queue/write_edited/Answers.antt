-- A refusal is a fault of the edit.
use Rattle.spool_admin.proofs.EditFaults.{refused}
use Rattle.spool_admin.proofs.queue.write_edited.Goals as goal

pub returns-in-Some : goal.returns-in-Some
returns-in-Some c = refused c.from.result c.in-Some.refusal c.from.ensures
