-- The closure returns whether the job is incoming.
use Rattle.std.proofs.Common.{◌≡◌, rules, ap, sym, ◌∙◌}
use Rattle.std.proofs.lemmas.Fn.{filter_same}
use Rattle.service_texts.specs.LeftJobs.{is_incoming_at, still_incoming}
use Rattle.service_texts.specs.declared.left_jobs.LeftJob.{LeftJob}
use Rattle.service_texts.proofs.left_jobs.LeftJobs.keep_incoming.Goals as goal

pub returns : goal.returns
returns c =
    let same : c.args.self.now ≡ c.self.inside.jobs.items = cc (c.self.view_is) in
    filter_same _ (λ (l : LeftJob). is_incoming_at c.args.table.now.state l.job) _ (λ l b f called. search rules) _ _ c.retain.ensures.filtered
    ∙ ap (still_incoming c.args.table.now.state) (sym same)
