-- The rows of the jobs so far.
use Rattle.std.proofs.Common.{◌≡◌, ◌++◌, take}
use Rattle.std.specs.List.{flat_map}
use Rattle.front_texts.specs.Page.{ageless_html}
use Rattle.front_texts.proofs.web_page.push_ageless_rows.Given as goal

abbrev pub invariant-loop-job : goal.invariant-loop-job
invariant-loop-job l = l.page.items ≡ l.initial.page.items ++ flat_map (ageless_html l.queues) (take l.job-index l.jobs)
