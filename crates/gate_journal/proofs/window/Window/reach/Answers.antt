use Rattle.std.proofs.Common.{◌≤◌, length, arith}
use Rattle.spool_disk.proofs.Ranges.{both_ok}
use Rattle.gate_journal.proofs.window.Window.reach.Goals as goal

pub returns-clause-reaches : goal.returns-clause-reaches
returns-clause-reaches g c =
    both_ok c.fill.result c.fill.ensures.start c.fill.ensures.full (λ start full.
    let enough : c.args.len ≤ length c.fill.new.self.bytes = full c.args.len c.requires.short c.requires.within in
    omega (arith, start, enough))
