-- Each sorted list has the given dates.
use Rattle.std.proofs.Common.{arith}
use Rattle.job_table.specs.Agendas.{ended_date, hold_date, retry_date}
use Rattle.job_table.proofs.Redated.{sorted_dates}
use Rattle.job_table.proofs.agenda.Agenda.of_dates.Goals as goal

pub returns : goal.returns
returns c = λ all is. record {
  holds = sorted_dates hold_date all c.args.holds.items c.in_ok-sorted.field-0.items c.in_ok-sorted.ensures.dates is.holds;
  retries = sorted_dates retry_date all c.args.retries.items c.in_ok-sorted-2.field-0.items c.in_ok-sorted-2.ensures.dates is.retries;
  ended = sorted_dates ended_date all c.args.ended.items c.in_ok-sorted-3.field-0.items c.in_ok-sorted-3.ensures.dates is.ended;
  few = is.few;
  fits = omega arith;
  holds_room = c.in_ok-sorted.ensures.room;
  retries_room = c.in_ok-sorted-2.ensures.room;
  ended_room = c.in_ok-sorted-3.ensures.room;
}
