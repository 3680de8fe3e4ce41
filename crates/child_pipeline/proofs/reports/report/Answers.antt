use Rattle.std.proofs.Common.{◌≡◌, [], take, ap, sym, ◌∙◌}
use Rattle.std.proofs.lemmas.List.{append-nil, take_min}
use Rattle.stderr_lines.specs.PendingEffects.{to_come}
use Rattle.stderr_lines.specs.Reports.{report_of}
use Rattle.child_pipeline.specs.Finishes.{most_errors}
use Rattle.child_pipeline.proofs.reports.report.Goals as goal

pub returns : goal.returns
returns c =
    let errors = c.args.errors.now in
    let front : take c.min-end.result errors ≡ take most_errors errors = ap (λ n. take n errors) c.min-end.ensures ∙ take_min most_errors errors in
    c.in_ok-finish.ensures.ok
    ∙ sym (c.in_ok-feed.ensures.ok [])
    ∙ ap (to_come c.new-lines.result) (append-nil (take c.min-end.result errors))
    ∙ c.new-lines.ensures.whole (take c.min-end.result errors)
    ∙ ap report_of front
