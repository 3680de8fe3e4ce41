-- Each closure returns whether a row's job has this phase.
use Rattle.std.proofs.Common.{rules, tests, ◌∙◌, sym}
use Rattle.std.proofs.lemmas.Iterator.Consumers.{count_from_yields_List, YieldsList-from_filter, YieldsList-from_first}
use Rattle.std.proofs.lemmas.List.{length-map}
use Rattle.std.proofs.lemmas.List.Sums.{length-filter}
use Rattle.spool_types.specs.Phases.{has_ended, is_incoming, is_processing, is_waiting}
use Rattle.spool_types.specs.State.{job_of}
use Rattle.spool_types.specs.declared.rows.JobRow.{JobRow}
use Rattle.spool_admin.proofs.Counts.{count_jobs_of}
use Rattle.spool_admin.proofs.found.count_jobs.Goals as goal

pub returns : goal.returns
returns c =
    let rows = c.args.rows.now.items in
    record {
      all = c.len.ensures.items ∙ sym (length-map rows job_of);
      incoming =
          count_from_yields_List c.filter.result _ c.count.ensures.ran
          (YieldsList-from_filter _ (λ (row : JobRow). is_incoming row.job.phase) (YieldsList-from_first (λ x. x.now) (λ rest. rest) rows cc) c.filter.ensures.closure (λ x r q k. search (rules, tests)))
          ∙ length-filter (λ (row : JobRow). is_incoming row.job.phase) rows ∙ count_jobs_of (λ job. is_incoming job.phase) rows;
      waiting =
          count_from_yields_List c.filter-2.result _ c.count-2.ensures.ran
          (YieldsList-from_filter _ (λ (row : JobRow). is_waiting row.job.phase) (YieldsList-from_first (λ x. x.now) (λ rest. rest) rows cc) c.filter-2.ensures.closure (λ x r q k. search (rules, tests)))
          ∙ length-filter (λ (row : JobRow). is_waiting row.job.phase) rows ∙ count_jobs_of (λ job. is_waiting job.phase) rows;
      processing =
          count_from_yields_List c.filter-3.result _ c.count-3.ensures.ran
          (YieldsList-from_filter _ (λ (row : JobRow). is_processing row.job.phase) (YieldsList-from_first (λ x. x.now) (λ rest. rest) rows cc) c.filter-3.ensures.closure (λ x r q k. search (rules, tests)))
          ∙ length-filter (λ (row : JobRow). is_processing row.job.phase) rows ∙ count_jobs_of (λ job. is_processing job.phase) rows;
      ended =
          count_from_yields_List c.filter-4.result _ c.count-4.ensures.ran
          (YieldsList-from_filter _ (λ (row : JobRow). has_ended row.job.phase) (YieldsList-from_first (λ x. x.now) (λ rest. rest) rows cc) c.filter-4.ensures.closure (λ x r q k. search (rules, tests)))
          ∙ length-filter (λ (row : JobRow). has_ended row.job.phase) rows ∙ count_jobs_of (λ job. has_ended job.phase) rows;
    }
