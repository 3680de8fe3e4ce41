use Rattle.spool_types.specs.declared.version.Version.TheVariants.{Two}
use Rattle.event_codec.specs.RowSpelling.{by_code, job_state_code}
use Rattle.event_codec.proofs.Added.{put_both, both_long, first_fits, then_fits}
use Rattle.event_codec.proofs.row_writing.put_job_rest.Goals as goal

pub put_job_state-requires : goal.put_job_state-requires
put_job_state-requires c = record { room = first_fits (job_state_code c.args.job.now) (by_code Two c.args.job.now.by) c.args.out.now c.requires.room }

pub put_by-requires : goal.put_by-requires
put_by-requires c = record { room = then_fits (job_state_code c.args.job.now) (by_code Two c.args.job.now.by) c.args.out.now c.put_job_state.new.out c.put_job_state.ensures.len c.put_job_state.ensures.grown c.requires.room }

pub returns-clause-written : goal.returns-clause-written
returns-clause-written c = put_both (job_state_code c.args.job.now) (by_code Two c.args.job.now.by) c.args.out.now c.put_job_state.new.out c.put_by.new.out c.put_job_state.ensures.written c.put_by.ensures.written

pub returns-clause-len : goal.returns-clause-len
returns-clause-len c = both_long (job_state_code c.args.job.now) (by_code Two c.args.job.now.by) c.args.out.now c.put_job_state.new.out c.put_by.new.out c.put_job_state.ensures.len c.put_by.ensures.len
