use Rattle.std.proofs.Common.{◌+◌, List, ℕ, subst, arith}
use Rattle.spool_disk.specs.Disk.{IsWritten}
use Rattle.spool_disk.proofs.Moments.{wider_change, part_then}
use Rattle.spool_areas.specs.AreaFilling.{change_of}
use Rattle.spool_areas.proofs.Changes.{part_one}
use Rattle.spool_areas.proofs.Fillings.{still_old, is_begun}
use Rattle.spool_areas.proofs.filling.begin_area.Goals as goal

pub returns-in_err-close_header-clause-changes : goal.returns-in_err-close_header-clause-changes
returns-in_err-close_header-clause-changes g c = wider_change g.D.Disk.device c.args.disk.now c.close_header.new.disk _ _ _ _ (omega arith) (omega arith) c.close_header.ensures.changes

pub returns-in_err-write-clause-changes : goal.returns-in_err-write-clause-changes
returns-in_err-write-clause-changes g c =
    part_then g.D.Disk.device c.args.disk.now c.close_header.new.disk c.write.new.self _ _ _ _ g.met.D.Disk.lawful (omega arith) (omega arith)
    (wider_change g.D.Disk.device c.args.disk.now c.close_header.new.disk _ _ _ _ (omega arith) (omega arith) c.close_header.ensures.changes) c.write.ensures.changes

pub returns-in_err-write-2-clause-changes : goal.returns-in_err-write-2-clause-changes
returns-in_err-write-2-clause-changes g c =
    part_then g.D.Disk.device c.args.disk.now c.write.new.self c.write-2.new.self _ _ _ _ g.met.D.Disk.lawful (omega arith) (omega arith)
    (part_then g.D.Disk.device c.args.disk.now c.close_header.new.disk c.write.new.self _ _ _ _ g.met.D.Disk.lawful (omega arith) (omega arith)
    (wider_change g.D.Disk.device c.args.disk.now c.close_header.new.disk _ _ _ _ (omega arith) (omega arith) c.close_header.ensures.changes) c.write.ensures.changes)
    c.write-2.ensures.changes

pub returns-clause-changes : goal.returns-clause-changes
returns-clause-changes g c =
    part_then g.D.Disk.device c.args.disk.now c.write.new.self c.write-2.new.self _ _ _ _ g.met.D.Disk.lawful (omega arith) (omega arith)
    (part_then g.D.Disk.device c.args.disk.now c.close_header.new.disk c.write.new.self _ _ _ _ g.met.D.Disk.lawful (omega arith) (omega arith)
    (wider_change g.D.Disk.device c.args.disk.now c.close_header.new.disk _ _ _ _ (omega arith) (omega arith) c.close_header.ensures.changes) c.write.ensures.changes)
    c.write-2.ensures.changes

pub returns-in_err-close_header-clause-any_moment : goal.returns-in_err-close_header-clause-any_moment
returns-in_err-close_header-clause-any_moment g c len base old_epoch version payloads can =
    part_one g.D.Disk.device g.met.D.Disk.lawful c.args.disk.now len base c.args.other old_epoch version payloads can.stands can.is_half can.least c.close_header.new.disk c.close_header.ensures.any_moment

pub returns-in_err-write-clause-any_moment : goal.returns-in_err-write-clause-any_moment
returns-in_err-write-clause-any_moment g c len base old_epoch version payloads can =
    let v = g.D.Disk.device in
    let x = change_of c.args.disk.now len base c.args.other old_epoch c.args.epoch version payloads in
    still_old v g.met.D.Disk.lawful x c.close_header.new.disk c.write.new.self can
    c.close_header.ensures.any_moment c.close_header.ensures.changes.bytes c.in_ok-close_header.ensures.closed c.in_ok-close_header.ensures.durable
    (wider_change v c.close_header.new.disk c.write.new.self _ _ _ _ (omega arith) (omega (arith, can.least)) c.write.ensures.changes)

pub returns-in_err-write-2-clause-any_moment : goal.returns-in_err-write-2-clause-any_moment
returns-in_err-write-2-clause-any_moment g c len base old_epoch version payloads can =
    let v = g.D.Disk.device in
    let x = change_of c.args.disk.now len base c.args.other old_epoch c.args.epoch version payloads in
    still_old v g.met.D.Disk.lawful x c.close_header.new.disk c.write-2.new.self can
    c.close_header.ensures.any_moment c.close_header.ensures.changes.bytes c.in_ok-close_header.ensures.closed c.in_ok-close_header.ensures.durable
    (part_then v c.close_header.new.disk c.write.new.self c.write-2.new.self _ _ _ _ g.met.D.Disk.lawful (omega arith) (omega (arith, can.least))
    (wider_change v c.close_header.new.disk c.write.new.self _ _ _ _ (omega arith) (omega (arith, can.least)) c.write.ensures.changes)
    c.write-2.ensures.changes)

pub returns-clause-any_moment : goal.returns-clause-any_moment
returns-clause-any_moment g c len base old_epoch version payloads can =
    let v = g.D.Disk.device in
    let x = change_of c.args.disk.now len base c.args.other old_epoch c.args.epoch version payloads in
    still_old v g.met.D.Disk.lawful x c.close_header.new.disk c.write-2.new.self can
    c.close_header.ensures.any_moment c.close_header.ensures.changes.bytes c.in_ok-close_header.ensures.closed c.in_ok-close_header.ensures.durable
    (part_then v c.close_header.new.disk c.write.new.self c.write-2.new.self _ _ _ _ g.met.D.Disk.lawful (omega arith) (omega (arith, can.least))
    (wider_change v c.close_header.new.disk c.write.new.self _ _ _ _ (omega arith) (omega (arith, can.least)) c.write.ensures.changes)
    c.write-2.ensures.changes)

pub returns-clause-begun : goal.returns-clause-begun
returns-clause-begun g c len base old_epoch version payloads can =
    let v = g.D.Disk.device in
    let x = change_of c.args.disk.now len base c.args.other old_epoch c.args.epoch version payloads in
    is_begun v g.met.D.Disk.lawful x c.close_header.new.disk c.write.new.self c.write-2.new.self can (omega (arith, c.close_header.ensures.changes.size, c.requires.within))
    c.close_header.ensures.any_moment c.close_header.ensures.changes.bytes c.in_ok-close_header.ensures.closed c.in_ok-close_header.ensures.durable
    (subst (λ (l : List ℕ). IsWritten v c.close_header.new.disk c.write.new.self (c.args.other + 1) l) c.header_behind_gate.ensures c.in_ok-write.ensures.written)
    (wider_change v c.close_header.new.disk c.write.new.self _ _ _ _ (omega arith) (omega arith) c.write.ensures.changes)
    c.in_ok-write-2.ensures.written
    (wider_change v c.write.new.self c.write-2.new.self _ _ _ _ (omega arith) (omega arith) c.write-2.ensures.changes)
