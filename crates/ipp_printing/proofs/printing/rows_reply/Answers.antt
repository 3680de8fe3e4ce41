use Rattle.std.proofs.Common.{Some, ap, sym, ◌∙◌}
use Rattle.front_submission.specs.declared.reply.Reply.TheVariants.{Job}
use Rattle.ipp_printing.proofs.Rows.{rows_shown}
use Rattle.ipp_printing.proofs.printing.rows_reply.Goals as goal

pub returns-in-Some : goal.returns-in-Some
returns-in-Some c =
    ap (λ shown. Job shown) c.shown_of.ensures
    ∙ rows_shown c.args.reply c.args.rows.now (Some c.in-Some.job) (sym c.is_empty.ensures ∙ c.if-is_empty.false) (sym c.in-Some.is ∙ c.in_ok-job.ensures)
