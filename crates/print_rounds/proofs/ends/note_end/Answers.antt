-- The event of the answer is that of the report.
use Rattle.std.proofs.Common.{subst, sym}
use Rattle.std.specs.Prelude.{vec_capacity}
use Rattle.spool_types.specs.declared.event.Event.TheVariants.{Stage}
use Rattle.print_rounds.specs.declared.outcome.Report.{Report}
use Rattle.print_rounds.specs.Counts.{report_events}
use Rattle.print_rounds.specs.Happenings.{HaveHappened, happenings_of}
use Rattle.print_rounds.proofs.ends.note_end.Goals as goal

pub returns-in-Answered-clause-noted : goal.returns-in-Answered-clause-noted
returns-in-Answered-clause-noted c = λ end same.
    subst (λ (r : Report). HaveHappened (vec_capacity c.args.happened.now) 1 c.args.happened.now.items c.note_answer.new.happened.items (happenings_of (report_events (Stage end) r)))
    (sym c.in-Answered.is) (c.note_answer.ensures.noted end same)
