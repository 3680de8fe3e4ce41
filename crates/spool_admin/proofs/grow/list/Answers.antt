use Rattle.std.proofs.Common.{◌∙◌, subst, sym}
use Rattle.spool_disk.specs.Disk.{IsSynced}
use Rattle.spool_core.specs.Image.{HasTable}
use Rattle.spool_admin.proofs.Grown.{from_ok, is_some_of, kept_documents}
use Rattle.spool_admin.proofs.grow.list.Goals as goal

pub returns-clause-synced : goal.returns-clause-synced
returns-clause-synced g c =
    let v = g.T.Disk.device in
    subst (λ disk. IsSynced v disk) (sym c.into_disk.ensures) c.in_ok-checkpoint.ensures.durable

pub returns-clause-grown : goal.returns-clause-grown
returns-clause-grown g c = λ r t tells starts image now.
    let v = g.T.Disk.device in
    let lawful = g.met.T.Disk.lawful in
    let done = c.in_ok-checkpoint.ensures in
    let now' = subst (λ disk. v.image disk image) c.into_disk.ensures now in
    let copied = from_ok c.copy.result _ (sym c.is_err.ensures.value ∙ c.if-is_err.false) c.copy.ensures.copied r t tells starts in
    let told = c.in-Ok.ensures.told.1 (is_some_of _ _ copied) in
    record {
      table = c.in-Ok.spool.state;
      opened = c.in-Ok.ensures.opened _ copied;
      listed = subst (λ s. HasTable s image) done.answer.state (done.kept told image now');
      documents = λ s documents found has.
          kept_documents v lawful _ _ c.in-Ok.spool.state documents image told
          (λ r' is. c.in-Ok.ensures.documents _ s documents copied found has r' (lawful.reads_image _ r' is))
          (λ r' is. done.documents c.in-Ok.ensures.alive r' documents is) now';
    }
