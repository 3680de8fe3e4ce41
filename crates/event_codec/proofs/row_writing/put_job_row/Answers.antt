use Rattle.spool_types.specs.declared.version.Version.TheVariants.{Two}
use Rattle.event_codec.specs.RowSpelling.{new_job_of, created_code, job_rest_code}
use Rattle.event_codec.proofs.Added.{put_both, both_long, first_fits, then_fits}
use Rattle.event_codec.proofs.row_writing.put_job_row.Goals as goal

pub put_created-requires : goal.put_created-requires
put_created-requires c = record { room = first_fits (created_code (new_job_of c.args.job.now)) (job_rest_code Two c.args.job.now) c.args.out.now c.requires.room }

pub put_job_rest-requires : goal.put_job_rest-requires
put_job_rest-requires c = record { room = then_fits (created_code (new_job_of c.args.job.now)) (job_rest_code Two c.args.job.now) c.args.out.now c.put_created.new.out c.put_created.ensures.len c.put_created.ensures.grown c.requires.room }

pub returns-clause-written : goal.returns-clause-written
returns-clause-written c = put_both (created_code (new_job_of c.args.job.now)) (job_rest_code Two c.args.job.now) c.args.out.now c.put_created.new.out c.put_job_rest.new.out c.put_created.ensures.written c.put_job_rest.ensures.written

pub returns-clause-len : goal.returns-clause-len
returns-clause-len c = both_long (created_code (new_job_of c.args.job.now)) (job_rest_code Two c.args.job.now) c.args.out.now c.put_created.new.out c.put_job_rest.new.out c.put_created.ensures.len c.put_job_rest.ensures.len
