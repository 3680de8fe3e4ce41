-- There are no more rows than slots.
use Rattle.std.proofs.Common.{◌<◌, ◌^◌, length, arith}
use Rattle.job_rows.specs.RowSlots.{held}
use Rattle.job_rows.proofs.Holding.{length_held}
use Rattle.job_rows.proofs.rows.Rows.iter.Goals as goal

pub returns-clause-fits : goal.returns-clause-fits
returns-clause-fits c =
    let fits : length (held c.as_slice.result.now) < 2 ^ 64 = omega (arith, length_held c.as_slice.result.now) in
    fits
