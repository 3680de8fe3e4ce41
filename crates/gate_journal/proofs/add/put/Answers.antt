use Rattle.std.proofs.Common.{◌≡◌, ◌∷◌, ◌+◌, ◌-◌, ◌≤◌, List, ℕ, Some, length, ◌∙◌, ap, arith}
use Rattle.std.specs.Option.{option_map}
use Rattle.spool_disk.specs.Disk.{DiskView, IsLawful, overwritten}
use Rattle.spool_disk.proofs.Moments.{wider_change, then_changes}
use Rattle.spool_disk.proofs.Ranges.{both_ok}
use Rattle.gate_journal.specs.Staged.{gate_of, shown}
use Rattle.gate_journal.proofs.Staging.{gate_within, gate_before, put_more}
use Rattle.gate_journal.proofs.add.put.Goals as goal

-- a range inside the device lies inside what the disk tells
inside : {D : Type 0} (v : DiskView D) (lawful : IsLawful v) (d : D) (n : ℕ) → n ≤ v.size d → (r : List ℕ) → v.bytes d ≡ Some r → n ≤ length r
inside v lawful d n fits r tells = let size = lawful.image_size d r (lawful.reads_image d r tells) in omega (arith, size, fits)

pub returns-in_err-write-clause-changes : goal.returns-in_err-write-clause-changes
returns-in_err-write-clause-changes g c =
    wider_change g.D.Disk.device c.args.disk.now c.write.new.self (c.args.place + 1) (length c.fill.new.frame) c.args.place (1 + length c.args.frame.now) (omega arith) (omega arith) c.write.ensures.changes

pub returns-in_err-write-clause-behind : goal.returns-in_err-write-clause-behind
returns-in_err-write-clause-behind g c =
    let low = gate_within c.args.held c.args.place c.requires.before in
    wider_change g.D.Disk.device c.args.disk.now c.write.new.self (c.args.place + 1) (length c.fill.new.frame) (gate_of c.args.held c.args.place + 1) (c.args.place + length c.args.frame.now - gate_of c.args.held c.args.place) (omega (arith, low)) (omega (arith, low)) c.write.ensures.changes

pub returns-in-None-clause-changes : goal.returns-in-None-clause-changes
returns-in-None-clause-changes g c =
    wider_change g.D.Disk.device c.args.disk.now c.write.new.self (c.args.place + 1) (length c.fill.new.frame) c.args.place (1 + length c.args.frame.now) (omega arith) (omega arith) c.write.ensures.changes

pub returns-in-Some-clause-changes : goal.returns-in-Some-clause-changes
returns-in-Some-clause-changes g c =
    let v = g.D.Disk.device in
    let n = 1 + length c.args.frame.now in
    then_changes v c.args.disk.now c.write.new.self c.write-in-Some.new.self c.args.place n g.met.D.Disk.lawful
    (wider_change v c.args.disk.now c.write.new.self (c.args.place + 1) (length c.fill.new.frame) c.args.place n (omega arith) (omega arith) c.write.ensures.changes)
    (wider_change v c.write.new.self c.write-in-Some.new.self c.args.place 1 c.args.place n (omega arith) (omega arith) c.write-in-Some.ensures.changes)

pub returns-in-Some-clause-behind : goal.returns-in-Some-clause-behind
returns-in-Some-clause-behind g c =
    let v = g.D.Disk.device in
    let gate = gate_of c.args.held c.args.place in
    let n = c.args.place + length c.args.frame.now - gate in
    let low = gate_before c.args.held c.in-Some.field-0 c.args.place c.in-Some.is c.requires.before in
    then_changes v c.args.disk.now c.write.new.self c.write-in-Some.new.self (gate + 1) n g.met.D.Disk.lawful
    (wider_change v c.args.disk.now c.write.new.self (c.args.place + 1) (length c.fill.new.frame) (gate + 1) n (omega (arith, low)) (omega (arith, low)) c.write.ensures.changes)
    (wider_change v c.write.new.self c.write-in-Some.new.self c.args.place 1 (gate + 1) n (omega (arith, low)) (omega (arith, low)) c.write-in-Some.ensures.changes)

pub returns-in-Some-clause-written : goal.returns-in-Some-clause-written
returns-in-Some-clause-written g c =
    let v = g.D.Disk.device in
    both_ok c.write-in-Some.result c.write-in-Some.ensures.written c.write-in-Some.ensures.written (λ written same.
    put_more c.args.held c.in-Some.field-0 c.args.place c.fill.new.frame (v.bytes c.args.disk.now) (v.bytes c.write.new.self) (v.bytes c.write-in-Some.new.self) c.in-Some.is c.requires.before
    (inside v g.met.D.Disk.lawful c.args.disk.now (c.args.place + 1 + length c.fill.new.frame) (omega arith)) c.in_ok-write.ensures.written written
    ∙ ap (λ (f : List ℕ). option_map (overwritten c.args.place (165 ∷ f)) (shown c.args.held (v.bytes c.args.disk.now))) c.fill.ensures)
