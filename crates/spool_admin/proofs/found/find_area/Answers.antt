use Rattle.std.proofs.Common.{◌∙◌, ◌+◌, ap, arith, subst, sym}
use Rattle.spool_areas.specs.Header.{epoch_of, half, header_at, header_len, version_of}
use Rattle.spool_areas.specs.Payloads.{HasPayloads}
use Rattle.spool_areas.specs.PayloadExtents.{EndsSo, payloads_at}
use Rattle.spool_core.proofs.FoldLaws.{follow_le}
use Rattle.spool_admin.proofs.Damage.{untorn}
use Rattle.spool_admin.proofs.Pieces.{told_long}
use Rattle.spool_admin.proofs.found.find_area.Goals as goal

pub overflow_sub-place : goal.overflow_sub-place
overflow_sub-place g c =
    let areas = c.in-Ok.opened.areas in
    omega (arith, c.base-base.ensures, c.in-Ok.ensures.room.0, follow_le c.in-Ok.opened.payloads.items (areas.base + header_len) areas.gate c.in-Ok.ensures.lie.0)

pub returns-clause-area : goal.returns-clause-area
returns-clause-area g c = λ r tells.
    let areas = c.in-Ok.opened.areas in
    let lawful = g.met.D.Disk.lawful in
    let keeps = c.in-Ok.ensures.keeps r tells c.in-None.is in
    let image = lawful.reads_image areas.disk r (c.in-Ok.ensures.same.bytes ∙ tells) in
    let low = follow_le c.in-Ok.opened.payloads.items (areas.base + header_len) areas.gate c.in-Ok.ensures.lie.0 in
    let long = ap half (told_long g.D.Disk.device lawful c.args.disk r tells) in
    record {
      payloads = payloads_at r c.in-Ok.opened.payloads.items;
      area = subst (λ b. HasPayloads b (payloads_at r c.in-Ok.opened.payloads.items) r) (sym c.base-base.ensures) (keeps.each r image);
      version_is = ap (λ b. version_of (header_at b r)) c.base-base.ensures ∙ keeps.version r image ∙ sym c.version-version.ensures.value;
      epoch_is = ap (λ b. epoch_of (header_at b r)) c.base-base.ensures ∙ keeps.epoch r image ∙ sym c.epoch-epoch.ensures;
      used_is = omega (arith, c.base-base.ensures, c.in-Ok.ensures.room.0, low, keeps.gate_at);
      free_is = omega (arith, c.base-base.ensures, c.in-Ok.ensures.room.0, c.in-Ok.ensures.room.1, c.in-Ok.ensures.lie.1, low, c.in-Ok.ensures.area.end_is, long);
    }

pub returns-in-Some-clause-fault : goal.returns-in-Some-clause-fault
returns-in-Some-clause-fault g c = λ r table tells has.
    let base = c.in-Ok.opened.areas.base in
    let payloads = payloads_at r c.in-Ok.opened.payloads.items in
    absurd (untorn table r base payloads has (subst (λ damage. EndsSo base payloads r damage) c.in-Some.is (c.in-Ok.ensures.found r tells).1))
