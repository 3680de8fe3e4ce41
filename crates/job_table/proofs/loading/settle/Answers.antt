-- A job with a complete document.
use Rattle.spool_types.specs.State.{job_of}
use Rattle.job_table.proofs.Loaded.{legal_new_job}
use Rattle.job_table.proofs.loading.settle.Goals as goal

pub push_job-requires-clause-legal : goal.push_job-requires-clause-legal
push_job-requires-clause-legal c =
    legal_new_job c.args.store.now.state (job_of c.args.last.row) c.requires.legal c.requires.new
