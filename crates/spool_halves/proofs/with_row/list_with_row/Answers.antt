-- The old disk is as it was before the rows were written.
use Rattle.std.proofs.Common.{◌∙◌, sym, subst}
use Rattle.std.specs.Prelude.{IsSome}
use Rattle.spool_types.specs.State.{State}
use Rattle.spool_disk.specs.Disk.{IsSynced}
use Rattle.spool_disk.proofs.Moments.{twice_still}
use Rattle.spool_halves.specs.Edited.{KeepsAllDocuments}
use Rattle.spool_halves.proofs.with_row.list_with_row.Goals as goal

pub returns-clause-documents : goal.returns-clause-documents
returns-clause-documents g c = λ r tells told image now.
    let w = g.T.Disk.device in
    subst (λ (s : State). KeepsAllDocuments s r image) c.write_rows.ensures.state
    (c.in_ok-look_back_with.ensures.documents r (c.write_rows.ensures.still.bytes ∙ tells) (subst (λ d. IsSome (w.bytes d)) c.into_disk.ensures told) image
    (subst (λ d. w.image d image) c.into_disk.ensures now))

pub returns-clause-synced : goal.returns-clause-synced
returns-clause-synced g c = subst (λ d. IsSynced g.T.Disk.device d) (sym c.into_disk.ensures) c.in_ok-look_back_with.ensures.synced

pub returns-clause-still : goal.returns-clause-still
returns-clause-still g c =
    twice_still g.S.Disk.device c.args.whole.now.disk c.write_rows.new.whole.disk c.look_back_with.new.whole.disk g.met.S.Disk.lawful c.write_rows.ensures.still c.look_back_with.ensures.still
