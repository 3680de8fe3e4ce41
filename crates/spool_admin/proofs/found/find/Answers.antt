use Rattle.std.proofs.Common.{◌∙◌}
use Rattle.std.proofs.lemmas.Result.{err_from_is_err_and}
use Rattle.spool_admin.proofs.found.find.Goals as goal

pub returns-in_err-disk-2-clause-fault : goal.returns-in_err-disk-2-clause-fault
returns-in_err-disk-2-clause-fault g c =
    let p = err_from_is_err_and c.from_residual-in_err-disk-2.result c.from_residual-in_err-disk-2.ensures.1 in
    rw (p.1, p.2) (λ r tells.
    let counts = c.in_ok-disk.ensures.counts r tells in
    c.in_err-disk-2.ensures.fault r counts.table (c.in_ok-disk.ensures.still.bytes ∙ tells) counts.found)
