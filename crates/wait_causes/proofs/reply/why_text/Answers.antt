-- The job exists.
use Rattle.std.proofs.Common.{ap, sym, ◌∙◌}
use Rattle.std.specs.Option.{option_copied, option_map}
use Rattle.spool_types.specs.State.{job_of}
use Rattle.wait_causes.specs.WaitCauses.{why_line}
use Rattle.wait_causes.specs.declared.cause.Cause.{Cause}
use Rattle.wait_causes.proofs.CountLaws.{told}
use Rattle.wait_causes.proofs.reply.why_text.Goals as goal

pub returns : goal.returns
returns c =
    let row = c.in-Some.row.now in
    told c.args.facts c.args.table.now.state c.args.job row.job c.ahead-count.result c.in_ok-text.text.items
    (sym c.job.ensures.row ∙ ap (λ o. option_map job_of (option_copied o)) c.in-Some.is) c.ahead-count.ensures
    (c.in_ok-text.ensures ∙ ap (λ (cause : Cause). why_line cause c.ahead-count.result) c.cause_of-cause.ensures)
