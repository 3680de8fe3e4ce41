use Rattle.std.proofs.Common.{subst, length, List, ℕ, Option}
use Rattle.spool_disk.specs.Disk.{Reads}
use Rattle.gate_journal.proofs.Windows.{reads_part}
use Rattle.gate_journal.proofs.window.Window.read.Goals as goal

pub returns-clause-data : goal.returns-clause-data
returns-clause-data g c =
    let had = c.reach.new.self in
    reads_part (g.D.Disk.device.bytes c.args.disk.now) had.start c.args.place (length c.args.into.now) had.bytes c.copy.new.into
    (subst (λ (told : Option (List ℕ)). Reads told had.start had.bytes) c.reach.ensures.same.bytes c.reach.ensures.held)
    c.in_ok-reach.ensures.behind c.in_ok-reach.ensures.reaches c.copy.ensures
