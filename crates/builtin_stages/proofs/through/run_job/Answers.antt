use Rattle.builtin_stages.proofs.through.run_job.Goals as goal

pub returns : goal.returns
returns g c = record { end = c.run_chain_of-end.result; reports = c.report_through.ensures }
