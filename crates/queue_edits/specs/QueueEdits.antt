-- The table after a queue is changed or removed.
use Rattle.std.specs.Prelude.{ℕ, Bool, false, not, List, Option, None, Some, unwrap_or}
use Rattle.std.specs.Option.{option_map}
use Rattle.std.specs.FinMap as map
use Rattle.spool_types.specs.Busy.{is_of}
use Rattle.spool_types.specs.State.{State, Job, queue_at, job_at}
use Rattle.spool_types.specs.declared.rows.QueueRow.{QueueRow}
use Rattle.spool_types.specs.declared.version.Version.TheVariants.{Two}
use Rattle.queue_edits.specs.declared.change.QueueChange.{QueueChange}

-- The row with each field that is given replaced. All other fields are as they were.
abbrev pub changed : QueueChange → QueueRow → QueueRow
changed c q = record q {
  uri = unwrap_or c.uri q.uri;
  target = unwrap_or c.media q.target;
  policy = unwrap_or c.policy q.policy;
  interval = unwrap_or c.interval q.interval;
  limit = unwrap_or c.limit q.limit;
}

-- The table with this row, if any, at its name, in the newest version.
abbrev pub with_row : Option QueueRow → State → State
with_row None s = record s { version = Two }
with_row (Some q) s = record s { queues = map.insert s.queues q.name q; version = Two }

-- The table with the row of the queue changed, in the newest version.
abbrev pub after_change : List ℕ → QueueChange → State → State
after_change name c s = with_row (option_map (changed c) (queue_at s name)) s

-- The job is one of the queue.
abbrev pub is_job_of : List ℕ → Option Job → Bool
is_job_of name None = false
is_job_of name (Some r) = is_of name r

-- The table without the queue and its jobs, in the newest version.
abbrev pub after_removal : List ℕ → State → State
after_removal name s = record s {
  queues = map.remove s.queues name;
  jobs = map.retain_keys s.jobs (λ j. not (is_job_of name (job_at s j)));
  version = Two;
}

-- The media type that the queue with this name takes.
abbrev pub target_at : State → List ℕ → Option (List ℕ)
target_at s name = option_map (λ q. q.target) (queue_at s name)
