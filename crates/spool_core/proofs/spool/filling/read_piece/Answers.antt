use Rattle.std.proofs.Common.{◌∙◌, List, ℕ, ap, drop, length, take}
use Rattle.documents.specs.Documents.{joined}
use Rattle.job_table.specs.Contents.{places_at}
use Rattle.spool_core.proofs.ListingLaws.{on_ok}
use Rattle.spool_core.proofs.ReadOn.{told_same}
use Rattle.spool_core.proofs.spool.filling.read_piece.Goals as goal

pub returns-clause-data : goal.returns-clause-data
returns-clause-data g c =
    let places = places_at c.args.table.now c.args.job in
    on_ok c.read_joined.result c.read_joined.ensures.data
    (λ read r is.
    read is.now is.tells
    ∙ ap (λ (l : List ℕ). take (length c.args.into.now) (drop c.args.at l)) (ap (joined is.now) (c.deref.ensures.value ∙ c.in-Some.ensures.places) ∙ told_same g.D.Disk.device g.met.D.Disk.lawful c.args.areas.now c.requires.area places c.requires.lie r is))
