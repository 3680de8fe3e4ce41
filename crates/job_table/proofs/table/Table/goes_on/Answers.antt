-- A queue may start a job, or a job is processing.
use Rattle.std.proofs.Common.{◌≡◌, refl}
use Rattle.job_table.proofs.DueDates.{idle_if_none, none_at_once, some_at_once}
use Rattle.job_table.proofs.table.Table.goes_on.Goals as goal

pub returns-then-is_idle-clause-none : goal.returns-then-is_idle-clause-none
returns-then-is_idle-clause-none c = λ none. none_at_once c.args.self.now.state c.starts_any.ensures.legal (c.is_idle.ensures.idle c.if-is_idle.true) (c.starts_any.ensures.none none)

pub returns-then-is_idle-clause-some : goal.returns-then-is_idle-clause-some
returns-then-is_idle-clause-some c = λ some. some_at_once c.args.self.now.state (c.starts_any.ensures.some some)

pub returns-else-is_idle-clause-some : goal.returns-else-is_idle-clause-some
returns-else-is_idle-clause-some c = λ some none. c.is_idle.ensures.busy c.if-is_idle.false (idle_if_none c.args.self.now.state none)
