use Rattle.std.proofs.Common.{arith}
use Rattle.spool_types.specs.declared.listing.Row.TheVariants.{Job}
use Rattle.listing_rows.proofs.RowLaws.{is_put}
use Rattle.listing_rows.proofs.block.put_job.Goals as goal

pub returns-clause-put : goal.returns-clause-put
returns-clause-put c =
    is_put (Job c.args.job.now) c.args.block.now c.begin_record-start.new.block c.encode_job_onto.new.out c.begin_record-start.result
    c.begin_record-start.ensures.start c.begin_record-start.ensures.items c.in-Ok.ensures.spelled (omega (arith, c.begin_record-start.ensures.spare, c.encode_job_onto.ensures.grown)) c.encode_job_onto.ensures.short
