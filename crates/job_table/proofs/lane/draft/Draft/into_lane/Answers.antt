-- The index has the waiting jobs of the draft, and room for all jobs.
use Rattle.std.proofs.Common.{arith}
use Rattle.job_table.proofs.Drafts.{sorted_lane}
use Rattle.job_table.proofs.lane.draft.Draft.into_lane.Goals as goal

pub returns : goal.returns
returns c = sorted_lane c.args.self c.in_ok-of_entries.field-0 (λ e. rw c.in_ok-reserve.ensures.items at c.in_ok-of_entries.ensures.items e) (omega (arith, c.in_ok-of_entries.ensures.room, c.in_ok-reserve.ensures.ok, c.in_ok-reserve.ensures.len, c.saturating_sub.ensures, c.len.ensures)) c.args.moment c.in_ok-of_entries.ensures.moment
