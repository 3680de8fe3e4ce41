-- The number of the date comes last, if there is one.
use Rattle.std.proofs.Common.{sym}
use Rattle.job_table.proofs.DueDates.{listed_none, listed_some}
use Rattle.job_table.proofs.table.due.list_at.Goals as goal

pub returns-in_default : goal.returns-in_default
returns-in_default c = listed_none c.args.dates.now.items c.args.at c.args.jobs.now.items (sym c.in_default.ensures.item)

pub returns : goal.returns
returns c = listed_some c.args.dates.now.items c.args.at c.args.jobs.now.items c.push.new.self.items c.in-Some.date (sym c.in-Some.ensures.item) c.in_ok-push.ensures.items
