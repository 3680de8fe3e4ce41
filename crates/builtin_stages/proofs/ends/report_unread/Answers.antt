use Rattle.builtin_stages.proofs.EndLaws.{told}
use Rattle.builtin_stages.proofs.ends.report_unread.Goals as goal

pub returns-in-Ok : goal.returns-in-Ok
returns-in-Ok g c = told _ _ _ _ _ c.as_str.ensures.value c.in-Ok.ensures.no_number c.report_reason.ensures
