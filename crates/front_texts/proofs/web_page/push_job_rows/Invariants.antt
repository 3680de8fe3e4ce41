-- The rows of the jobs so far.
use Rattle.std.proofs.Common.{◌≡◌, ◌++◌, take}
use Rattle.std.specs.List.{flat_map}
use Rattle.std.specs.Option.{option_map}
use Rattle.front_texts.specs.Page.{job_if_shown}
use Rattle.front_texts.proofs.web_page.push_job_rows.Given as goal

abbrev pub invariant-loop-job : goal.invariant-loop-job
invariant-loop-job l = l.page.items ≡ l.initial.page.items ++ flat_map (job_if_shown l.queues (option_map (λ name. name.now) l.queue) (option_map (λ name. name.now) l.user)) (take l.job-index l.jobs)
