-- The meaning of a table's fields.
use Rattle.std.specs.Prelude.{◌+◌, ◌-◌, ◌≤◌, min, vec_len, vec_capacity}
use Rattle.job_table.specs.Agendas.{IsAgenda}
use Rattle.job_table.specs.Contents.{Contents}
use Rattle.job_table.specs.Lanes.{AreLanes}
use Rattle.job_table.specs.Legal.{IsLegal}
use Rattle.job_table.specs.Timely.{IsTimely}
use Rattle.spool_types.specs.State.{job_at}
use Rattle.job_table.specs.declared.table.Table.TheInside.{Inside}

abbrev pub table_of : Inside → Contents
table_of a = record {
  state = a.store.state;
  places = a.store.places;
  room = record a.store.room {
    queues = min a.store.room.queues (vec_capacity a.lanes - vec_len a.lanes);
    jobs = min a.store.room.jobs a.vacant;
  };
  moves = a.new_places;
}

-- Each queue has its lane, with room for all of the queue's jobs that have not ended and for the new jobs. The
-- timetable and the agenda are those of the jobs, and have room for the new jobs too.
pub record IsInLanes (a : Inside) : Type 0 where
  pub legal : IsLegal a.store.state
  pub lanes : AreLanes a.store.state a.vacant a.lanes.items
  pub timely : IsTimely (job_at a.store.state) a.timetable
  pub spare : a.timetable.timed + a.vacant ≤ a.timetable.deadlines.room
  pub agenda : IsAgenda (job_at a.store.state) a.agenda
  pub vacancies : a.agenda.jobs + a.vacant ≤ a.agenda.room
