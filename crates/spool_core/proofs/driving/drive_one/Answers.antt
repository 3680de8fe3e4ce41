use Rattle.std.proofs.Common.{Err, sym, subst}
use Rattle.spool_disk.proofs.Moments.{at_return}
use Rattle.spool_core.specs.Image.{HasDocuments, HasWholeBeforeOrAfterEvent, documents_after_one}
use Rattle.spool_core.specs.OpenSpools.{OpenSpool, IsAnswer}
use Rattle.spool_core.specs.declared.spool.apply_fault.ApplyFault.{ApplyFault}
use Rattle.spool_core.proofs.DriveLaws.{refused_sends}
use Rattle.spool_core.proofs.driving.drive_one.Goals as goal

-- Nothing has changed.
pub returns-in-Err-Refused-clause-sent : goal.returns-in-Err-Refused-clause-sent
returns-in-Err-Refused-clause-sent g c = λ r documents tells has image left.
    let v = g.D.Disk.device in
    let old = c.args.spool.now in
    let new = c.apply.new.self in
    let refused = subst (λ (f : ApplyFault). IsAnswer v old c.args.event (Err f) new) c.in-Err-Refused.field-0-is c.in-Err-Refused.ensures.answer in
    subst (λ (s : OpenSpool g.row.D.Denot). HasDocuments s.state (documents_after_one old.state documents c.args.event) image) (sym refused.2)
    (refused_sends old.state documents c.args.event c.in-Err-Refused.refusal image refused.1
    (at_return v g.met.D.Disk.lawful old.disk new.disk (HasWholeBeforeOrAfterEvent old.state documents c.args.event)
    (c.in-Err-Refused.ensures.documents refused.0 r documents tells has) image left))
