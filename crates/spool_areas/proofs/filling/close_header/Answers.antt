-- A read changes nothing, nor does a sync, and the byte is written only if the gate was read open.
use Rattle.std.proofs.Common.{inl}
use Rattle.spool_disk.proofs.Moments.{weaker_run, twice_still, still_then, still_changes}
use Rattle.spool_areas.specs.Checkpoint.{IsClosing}
use Rattle.spool_areas.proofs.filling.close_header.Goals as goal

pub returns-in_err-read-clause-any_moment : goal.returns-in_err-read-clause-any_moment
returns-in_err-read-clause-any_moment g c =
    let v = g.D.Disk.device in
    weaker_run v c.args.disk.now c.read.new.self (IsClosing v c.args.disk.now c.args.other) (v.image c.args.disk.now) c.read.ensures.same.images (λ b left. inl left)

pub returns-in_err-read-clause-changes : goal.returns-in_err-read-clause-changes
returns-in_err-read-clause-changes g c = still_changes g.D.Disk.device c.args.disk.now c.read.new.self c.args.other 1 c.read.ensures.same

pub returns-then-gate-clause-any_moment : goal.returns-then-gate-clause-any_moment
returns-then-gate-clause-any_moment g c =
    let v = g.D.Disk.device in
    let still = twice_still v c.args.disk.now c.read.new.self c.sync.new.self g.met.D.Disk.lawful c.read.ensures.same c.sync.ensures.same in
    weaker_run v c.args.disk.now c.sync.new.self (IsClosing v c.args.disk.now c.args.other) (v.image c.args.disk.now) still.images (λ b left. inl left)

pub returns-then-gate-clause-changes : goal.returns-then-gate-clause-changes
returns-then-gate-clause-changes g c =
    let v = g.D.Disk.device in
    still_changes v c.args.disk.now c.sync.new.self c.args.other 1 (twice_still v c.args.disk.now c.read.new.self c.sync.new.self g.met.D.Disk.lawful c.read.ensures.same c.sync.ensures.same)

pub returns-clause-changes : goal.returns-clause-changes
returns-clause-changes g c = still_then g.D.Disk.device c.args.disk.now c.read.new.self c.persist.new.disk c.args.other 1 g.met.D.Disk.lawful c.read.ensures.same c.persist.ensures.changes
