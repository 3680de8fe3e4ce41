-- The dates of all jobs.
use Rattle.std.proofs.Common.{ℕ, Option}
use Rattle.std.proofs.lemmas.Result.{IfOk-weaker}
use Rattle.spool_types.specs.State.{Job, job_at}
use Rattle.job_table.specs.Agendas.{ended_date, hold_date, retry_date, unsorted_agenda, IsAgenda}
use Rattle.job_table.specs.declared.agenda.Agenda.{Agenda}
use Rattle.job_table.proofs.Dated.{dated_agenda, dated_few, dated_once}
use Rattle.job_table.proofs.Redated.{ended_own, hold_own, retry_own}
use Rattle.job_table.proofs.table.build.agenda_of.Goals as goal

pub of_dates-requires-clause-holds : goal.of_dates-requires-clause-holds
of_dates-requires-clause-holds c =
    let s = c.args.store.now.state in
    let rows = c.jobs-rows.result.now.items in
    rw (c.len.ensures.items, c.in_ok-holds.ensures) (dated_once s c.jobs-rows.ensures.legal rows c.jobs-rows.ensures.rows hold_date hold_own, dated_few s c.jobs-rows.ensures.legal rows c.jobs-rows.ensures.rows hold_date hold_own)

pub of_dates-requires-clause-retries : goal.of_dates-requires-clause-retries
of_dates-requires-clause-retries c =
    let s = c.args.store.now.state in
    let rows = c.jobs-rows.result.now.items in
    rw (c.len.ensures.items, c.in_ok-retries.ensures) (dated_once s c.jobs-rows.ensures.legal rows c.jobs-rows.ensures.rows retry_date retry_own, dated_few s c.jobs-rows.ensures.legal rows c.jobs-rows.ensures.rows retry_date retry_own)

pub of_dates-requires-clause-ended : goal.of_dates-requires-clause-ended
of_dates-requires-clause-ended c =
    let s = c.args.store.now.state in
    let rows = c.jobs-rows.result.now.items in
    rw (c.len.ensures.items, c.in_ok-ended.ensures) (dated_once s c.jobs-rows.ensures.legal rows c.jobs-rows.ensures.rows ended_date ended_own, dated_few s c.jobs-rows.ensures.legal rows c.jobs-rows.ensures.rows ended_date ended_own)

pub returns : goal.returns
returns c =
    let s = c.args.store.now.state in
    let given : IsAgenda (job_at s) (unsorted_agenda c.in_ok-holds.holds.items c.in_ok-retries.retries.items c.in_ok-ended.ended.items c.len.result) =
    rw (c.len.ensures.items, c.in_ok-holds.ensures, c.in_ok-retries.ensures, c.in_ok-ended.ensures) (dated_agenda s c.jobs-rows.ensures.legal c.jobs-rows.result.now.items c.jobs-rows.ensures.rows) in
    IfOk-weaker c.of_dates.result
    (λ (a : Agenda). (all : ℕ → Option Job) → IsAgenda all (unsorted_agenda c.in_ok-holds.holds.items c.in_ok-retries.retries.items c.in_ok-ended.ended.items c.len.result) → IsAgenda all a)
    (IsAgenda (job_at s)) (λ a agenda. agenda (job_at s) given) c.of_dates.ensures
