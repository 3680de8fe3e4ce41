-- The draft of a lane: its contents before the waiting jobs are sorted.
use Rattle.std.specs.Prelude.{◌≡◌, ℕ, List}
use Rattle.std.specs.FinMap as finite
use Rattle.spool_types.specs.State.{State}
use Rattle.queue_sched.specs.WaitingIndex.{HasEachOnce}
use Rattle.job_table.specs.Lanes.{IsLane, AreBeside, seat}
use Rattle.job_table.specs.declared.lane.Lane.{Lane}
use Rattle.job_table.specs.declared.lane.LaneState.{LaneState}
use Rattle.job_table.specs.declared.lane.LaneState.TheVariants.{Ended}
use Rattle.job_table.specs.declared.lane.draft.Draft.{Draft}

-- The lane of the draft, except for the order of the waiting jobs and the moment.
abbrev pub drafted : Draft → Lane
drafted d = record {
  index = record { items = d.waiting.items; moment = 0; room = d.live };
  processing = d.processing;
  live = d.live;
  reserved = d.live;
}

-- The draft has the jobs with these lane states, and lists each waiting job once.
pub record IsDraft (seats : ℕ → LaneState) (d : Draft) : Type 0 where
  pub lane : IsLane seats (drafted d)
  pub once : HasEachOnce d.waiting.items

-- The draft has no jobs.
pub record IsBlank (d : Draft) : Type 0 where
  pub draft : (seats : ℕ → LaneState) → ((j : ℕ) → seats j ≡ Ended) → IsDraft seats d
  pub none : d.live ≡ 0

-- The drafts of the lanes of all queues.
abbrev pub AreDrafts : State → List Draft → Type 0
AreDrafts s drafts = AreBeside (λ name d. IsDraft (seat s name) d) (finite.keys s.queues) drafts
