use Rattle.std.proofs.Common.{◌≡◌, ◌+◌, ◌-◌, inr, ℕ, [], ap, length, refl, subst, arith}
use Rattle.job_table.specs.Listing.{listing}
use Rattle.spool_areas.specs.Checkpoint.{plan_of, area_len, other_base, other_of}
use Rattle.spool_core.specs.Checkpointing.{blank}
use Rattle.listing_rows.specs.RowFilling.{filling_at}
use Rattle.spool_core.specs.ListingFilling.{AreDocumentsNoted}
use Rattle.listing_rows.proofs.RowLaws.{fault_disk, lives_on, own_len}
use Rattle.spool_core.proofs.AddLaws.{lie_on}
use Rattle.spool_core.proofs.ImageLaws.{stands_lie}
use Rattle.spool_core.proofs.PartLaws.{alike_records}
use Rattle.spool_core.proofs.ListingLaws.{ok_by}
use Rattle.spool_core.proofs.OverLaws.{add_failed, begin_disk, begin_may, last_may, not_over, over_by, over_on, write_failed}
use Rattle.spool_core.proofs.spool.filling.fill_other.Goals as goal

pub returns-in_err-gate-clause-over : goal.returns-in_err-gate-clause-over
returns-in_err-gate-clause-over g c =
    let v = g.D.Disk.device in
    let a = c.args.areas.now in
    let b = c.begin.new.self in
    let own = c.in_err-gate.ensures in
    let e = c.in_err-gate.field-0.0 in
    let disk = begin_disk e (plan_of a []) (other_base a + 16) own.refused c.requires.plan in
    over_on v c.args.table.now a b e _ c.from_residual.result c.from_residual.ensures.1 (not_over v c.args.table.now a b e c.begin.ensures.changes c.begin.ensures.any_moment c.begin.ensures.same (own.dies.1 (inr disk)) (own.blames.failed disk))

pub add_listing-requires-clause-may : goal.add_listing-requires-clause-may
add_listing-requires-clause-may g c =
    let v = g.D.Disk.device in
    let lawful = g.met.D.Disk.lawful in
    let a = c.args.areas.now in
    let table = c.args.table.now in
    let one = c.begin.new.self in
    let own = c.in_ok-gate.ensures in
    let gate = c.in_ok-gate.gate in
    let block = c.args.block.items in
    let counted = own.blames.counted (λ failed. cc failed) in
    begin_may v lawful table a one c.begin.ensures.same c.begin.ensures.changes counted gate own.gate block c.requires.empty own.begun (listing table.state (blank table.state))
    (lives_on one.dead a.dead _ c.requires.alive own.dies.0 (λ failed. cc failed)) c.requires.stands.area c.requires.room

pub add_listing-requires-clause-lie : goal.add_listing-requires-clause-lie
add_listing-requires-clause-lie g c =
    let v = g.D.Disk.device in
    let lawful = g.met.D.Disk.lawful in
    let a = c.args.areas.now in
    let table = c.args.table.now in
    let one = c.begin.new.self in
    let own = c.in_ok-gate.ensures in
    let gate = c.in_ok-gate.gate in
    let block = c.args.block.items in
    let counted = own.blames.counted (λ failed. cc failed) in
    lie_on (a.base + 16) a.end (one.base + 16) one.end table table (ap (λ (b : ℕ). b + 16) c.begin.ensures.same.0) c.begin.ensures.same.1 refl refl (stands_lie v a table c.requires.stands)

pub returns-in_err-add_listing-clause-over : goal.returns-in_err-add_listing-clause-over
returns-in_err-add_listing-clause-over g c =
    let v = g.D.Disk.device in
    let lawful = g.met.D.Disk.lawful in
    let a = c.args.areas.now in
    let table = c.args.table.now in
    let one = c.begin.new.self in
    let own = c.in_ok-gate.ensures in
    let gate = c.in_ok-gate.gate in
    let block = c.args.block.items in
    let counted = own.blames.counted (λ failed. cc failed) in
    let end = filling_at c.add_listing.new.areas c.add_listing.new.filler in
    let e = c.in_err-add_listing.field-0.0 in
    over_on v table a c.add_listing.new.areas e _ c.from_residual-in_err-add_listing.result c.from_residual-in_err-add_listing.ensures.1
    (add_failed v lawful table a one c.begin.ensures.same c.begin.ensures.changes counted gate own.gate block c.requires.empty own.begun end e c.in_err-add_listing.ensures.on)

pub write_rows-requires-clause-spare : goal.write_rows-requires-clause-spare
write_rows-requires-clause-spare g c =
    omega (arith, own_len c.add_listing.new.filler.block, c.in_ok-add_listing.ensures.on.few, c.requires.spare, c.add_listing.ensures.spare)

pub write_rows-requires-clause-behind : goal.write_rows-requires-clause-behind
write_rows-requires-clause-behind g c =
    let v = g.D.Disk.device in
    let lawful = g.met.D.Disk.lawful in
    let a = c.args.areas.now in
    let table = c.args.table.now in
    let one = c.begin.new.self in
    let own = c.in_ok-gate.ensures in
    let gate = c.in_ok-gate.gate in
    let block = c.args.block.items in
    let counted = own.blames.counted (λ failed. cc failed) in
    let end = filling_at c.add_listing.new.areas c.add_listing.new.filler in
    let on = c.in_ok-add_listing.ensures.on in
    let added = c.in_ok-add_listing.ensures.added in
    let all = listing table.state (blank table.state) in
    let may = begin_may v lawful table a one c.begin.ensures.same c.begin.ensures.changes counted gate own.gate block c.requires.empty own.begun all
    (lives_on one.dead a.dead _ c.requires.alive own.dies.0 (λ failed. cc failed)) c.requires.stands.area c.requires.room in
    let last = last_may v lawful table a one c.begin.ensures.same c.begin.ensures.changes counted gate own.gate block c.requires.empty own.begun end on added all (alike_records all added.rows added.listing_is.alike) may in
    last.behind

pub write_rows-requires-clause-room : goal.write_rows-requires-clause-room
write_rows-requires-clause-room g c =
    let v = g.D.Disk.device in
    let lawful = g.met.D.Disk.lawful in
    let a = c.args.areas.now in
    let table = c.args.table.now in
    let one = c.begin.new.self in
    let own = c.in_ok-gate.ensures in
    let gate = c.in_ok-gate.gate in
    let block = c.args.block.items in
    let counted = own.blames.counted (λ failed. cc failed) in
    let end = filling_at c.add_listing.new.areas c.add_listing.new.filler in
    let on = c.in_ok-add_listing.ensures.on in
    let added = c.in_ok-add_listing.ensures.added in
    let all = listing table.state (blank table.state) in
    let may = begin_may v lawful table a one c.begin.ensures.same c.begin.ensures.changes counted gate own.gate block c.requires.empty own.begun all
    (lives_on one.dead a.dead _ c.requires.alive own.dies.0 (λ failed. cc failed)) c.requires.stands.area c.requires.room in
    let last = last_may v lawful table a one c.begin.ensures.same c.begin.ensures.changes counted gate own.gate block c.requires.empty own.begun end on added all (alike_records all added.rows added.listing_is.alike) may in
    omega (arith, last.room)

pub returns-in_err-end-clause-over : goal.returns-in_err-end-clause-over
returns-in_err-end-clause-over g c =
    let v = g.D.Disk.device in
    let lawful = g.met.D.Disk.lawful in
    let a = c.args.areas.now in
    let table = c.args.table.now in
    let one = c.begin.new.self in
    let own = c.in_ok-gate.ensures in
    let gate = c.in_ok-gate.gate in
    let block = c.args.block.items in
    let counted = own.blames.counted (λ failed. cc failed) in
    let end = filling_at c.add_listing.new.areas c.add_listing.new.filler in
    let on = c.in_ok-add_listing.ensures.on in
    let added = c.in_ok-add_listing.ensures.added in
    let two = c.write_rows.new.self in
    let fails = c.in_err-end.ensures in
    let e = c.in_err-end.field-0.0 in
    let disk = fault_disk {T = ℕ} e c.add_listing.new.areas.dead fails.refused fails.dead.0 on.alive in
    over_on v table a two e _ c.from_residual-in_err-end.result c.from_residual-in_err-end.ensures.1
    (write_failed v lawful table a one c.begin.ensures.same c.begin.ensures.changes counted gate own.gate block c.requires.empty own.begun end on added two c.write_rows.ensures.same c.write_rows.ensures.changes e c.write_rows.ensures.any_moment
    (fails.dies.1 (inr disk)) (fails.blames.failed disk))

pub open_other-requires-clause-behind : goal.open_other-requires-clause-behind
open_other-requires-clause-behind g c =
    let v = g.D.Disk.device in
    let lawful = g.met.D.Disk.lawful in
    let a = c.args.areas.now in
    let table = c.args.table.now in
    let one = c.begin.new.self in
    let own = c.in_ok-gate.ensures in
    let gate = c.in_ok-gate.gate in
    let block = c.args.block.items in
    let counted = own.blames.counted (λ failed. cc failed) in
    let end = filling_at c.add_listing.new.areas c.add_listing.new.filler in
    let on = c.in_ok-add_listing.ensures.on in
    let added = c.in_ok-add_listing.ensures.added in
    let all = listing table.state (blank table.state) in
    let may = begin_may v lawful table a one c.begin.ensures.same c.begin.ensures.changes counted gate own.gate block c.requires.empty own.begun all
    (lives_on one.dead a.dead _ c.requires.alive own.dies.0 (λ failed. cc failed)) c.requires.stands.area c.requires.room in
    let last = last_may v lawful table a one c.begin.ensures.same c.begin.ensures.changes counted gate own.gate block c.requires.empty own.begun end on added all (alike_records all added.rows added.listing_is.alike) may in
    let two = c.write_rows.new.self in
    let same = c.write_rows.ensures.same in
    let three = c.add_listing.new.areas in
    let other : other_base two ≡ other_base three = λ i. other_of (same.1 i - same.0 i) (same.0 i) in
    let len : area_len two ≡ area_len three = λ i. same.1 i - same.0 i in
    omega (arith, last.behind, c.in_ok-end.ensures.place, other)

pub open_other-requires-clause-room : goal.open_other-requires-clause-room
open_other-requires-clause-room g c =
    let v = g.D.Disk.device in
    let lawful = g.met.D.Disk.lawful in
    let a = c.args.areas.now in
    let table = c.args.table.now in
    let one = c.begin.new.self in
    let own = c.in_ok-gate.ensures in
    let gate = c.in_ok-gate.gate in
    let block = c.args.block.items in
    let counted = own.blames.counted (λ failed. cc failed) in
    let end = filling_at c.add_listing.new.areas c.add_listing.new.filler in
    let on = c.in_ok-add_listing.ensures.on in
    let added = c.in_ok-add_listing.ensures.added in
    let all = listing table.state (blank table.state) in
    let may = begin_may v lawful table a one c.begin.ensures.same c.begin.ensures.changes counted gate own.gate block c.requires.empty own.begun all
    (lives_on one.dead a.dead _ c.requires.alive own.dies.0 (λ failed. cc failed)) c.requires.stands.area c.requires.room in
    let last = last_may v lawful table a one c.begin.ensures.same c.begin.ensures.changes counted gate own.gate block c.requires.empty own.begun end on added all (alike_records all added.rows added.listing_is.alike) may in
    let two = c.write_rows.new.self in
    let same = c.write_rows.ensures.same in
    let three = c.add_listing.new.areas in
    let other : other_base two ≡ other_base three = λ i. other_of (same.1 i - same.0 i) (same.0 i) in
    let len : area_len two ≡ area_len three = λ i. same.1 i - same.0 i in
    omega (arith, last.room, c.in_ok-end.ensures.place, other, len)

pub open_other-requires-clause-more : goal.open_other-requires-clause-more
open_other-requires-clause-more g c = omega (arith, c.in_ok-gate.ensures.more, c.begin.ensures.same.2, c.in_ok-add_listing.ensures.on.epoch, c.write_rows.ensures.same.2)

pub returns-clause-over : goal.returns-clause-over
returns-clause-over g c =
    let v = g.D.Disk.device in
    let lawful = g.met.D.Disk.lawful in
    let a = c.args.areas.now in
    let table = c.args.table.now in
    let one = c.begin.new.self in
    let own = c.in_ok-gate.ensures in
    let gate = c.in_ok-gate.gate in
    let block = c.args.block.items in
    let counted = own.blames.counted (λ failed. cc failed) in
    let end = filling_at c.add_listing.new.areas c.add_listing.new.filler in
    let on = c.in_ok-add_listing.ensures.on in
    let added = c.in_ok-add_listing.ensures.added in
    let two = c.write_rows.new.self in
    let writes = c.in_ok-end.ensures in
    let last = c.open_other.ensures in
    over_by v lawful table a one c.begin.ensures.same c.begin.ensures.changes counted gate own.gate block c.requires.empty own.begun end on added two c.write_rows.ensures.same c.write_rows.ensures.changes
    c.in_ok-end.end writes.place (writes.blames.counted (λ failed. cc failed)) writes.added c.open_other.new.self last.changes last.any_moment c.open_other.result
    (lives_on two.dead c.add_listing.new.areas.dead _ on.alive writes.dies.0 (λ failed. cc failed)) last.dead last.refused last.blames last.dies last.held last.changed last.added last.durable

pub returns-clause-noted : goal.returns-clause-noted
returns-clause-noted g c =
    let table = c.args.table.now in
    let at : c.in_ok-gate.gate + length c.args.block.items ≡ other_base c.args.areas.now + 16 = omega (arith, c.in_ok-gate.ensures.gate, ap length c.requires.empty) in
    ok_by c.open_other.result (subst (λ (n : ℕ). AreDocumentsNoted table.state n c.add_listing.new.table.moves) at c.in_ok-add_listing.ensures.noted)
