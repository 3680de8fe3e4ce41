use Rattle.std.proofs.Common.{◌∙◌, sym, subst}
use Rattle.std.specs.Prelude.{IsSome}
use Rattle.spool_types.specs.State.{State}
use Rattle.spool_disk.specs.Disk.{IsSynced}
use Rattle.spool_disk.proofs.Moments.{twice_still}
use Rattle.spool_halves.specs.Halves.{HasHalf, KeepsDocuments}
use Rattle.spool_halves.proofs.listing.list_half.Goals as goal

pub returns-clause-half : goal.returns-clause-half
returns-clause-half g c = λ told image now.
    let w = g.T.Disk.device in
    subst (λ (s : State). HasHalf c.args.half.named c.args.half.names.now s image) c.write_rows.ensures.state
    (c.in_ok-look_back.ensures.half (subst (λ d. IsSome (w.bytes d)) c.into_disk.ensures told) image (subst (λ d. w.image d image) c.into_disk.ensures now))

pub returns-clause-documents : goal.returns-clause-documents
returns-clause-documents g c = λ r tells told image now.
    let w = g.T.Disk.device in
    subst (λ (s : State). KeepsDocuments c.args.half.named c.args.half.names.now s r image) c.write_rows.ensures.state
    (c.in_ok-look_back.ensures.documents r (c.write_rows.ensures.still.bytes ∙ tells) (subst (λ d. IsSome (w.bytes d)) c.into_disk.ensures told) image
    (subst (λ d. w.image d image) c.into_disk.ensures now))

pub returns-clause-synced : goal.returns-clause-synced
returns-clause-synced g c = subst (λ d. IsSynced g.T.Disk.device d) (sym c.into_disk.ensures) c.in_ok-look_back.ensures.synced

pub returns-clause-still : goal.returns-clause-still
returns-clause-still g c =
    twice_still g.S.Disk.device c.args.whole.now.disk c.write_rows.new.whole.disk c.look_back.new.whole.disk g.met.S.Disk.lawful c.write_rows.ensures.still c.look_back.ensures.still
