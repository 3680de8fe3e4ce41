-- The payload of a send has a place for its bytes.
use Rattle.spool_types.specs.Sent.{sent_by}
use Rattle.spool_core.proofs.FoldLaws.{has_place, sent_long}
use Rattle.spool_core.proofs.fold.add_event.Goals as goal

pub commit_event-requires-clause-at : goal.commit_event-requires-clause-at
commit_event-requires-clause-at c =
    has_place c.args.extent.place c.args.extent.len (sent_by c.in-Ok.event) (sent_long c.in-Ok.event c.args.payload.now c.args.extent.len c.in-Ok.ensures.sound.1 c.requires.long) c.requires.inside
