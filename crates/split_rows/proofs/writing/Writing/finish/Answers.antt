-- The disk of the areas is returned.
use Rattle.std.proofs.Common.{subst}
use Rattle.split_rows.proofs.writing.Writing.finish.Goals as goal

pub returns-in-Ok-clause-written : goal.returns-in-Ok-clause-written
returns-in-Ok-clause-written g c = λ x rows is epoch fills image left.
    c.in-Ok.ensures.written x rows is epoch fills image (subst (λ disk. g.T.Disk.device.image disk image) c.into_disk.ensures left)
