-- Properties of the rows of a table that can be listed.
use Rattle.std.proofs.Common.{List, [], ◌∷◌}
use Rattle.std.specs.FinMap as finite
use Rattle.std.specs.List.{AllByRecursion}
use Rattle.spool_types.specs.State.{State, Job}
use Rattle.spool_types.specs.declared.listing.Row.TheVariants.{Head}
use Rattle.event_codec.specs.RowSpelling.{IsOrderedQueue}
use Rattle.split_rows.specs.Tellable.{IsTellable}
use Rattle.job_table.specs.Listing.{head_of, listing}
use Rattle.job_table.specs.Loading.{ArePlaced, begin_loading, loaded}
use Rattle.spool_core.specs.Checkpointing.{MayBeListed, blank}
use Rattle.spool_core.proofs.ListingLaws.{AreTold, legal_job, told}

pub tellable : (r : Job) → MayBeListed r → IsTellable r
tellable r may = record { size = may.size; phase = λ few. (legal_job r may few).phase }

all_tellable : (rs : List Job) → AllByRecursion MayBeListed rs → AllByRecursion IsTellable rs
all_tellable [] may = tt
all_tellable (r ∷ rs) may = (tellable r may.0, all_tellable rs may.1)

module _ (s : State) (placed : ArePlaced (begin_loading s.version) (listing s (blank s))) where
  rows : AreTold (finite.values s.queues) (finite.values s.jobs)
  rows = told (blank s) (finite.values s.queues) (finite.values s.jobs) (loaded (begin_loading s.version) (Head (head_of s))) placed.1

  pub queues_told : AllByRecursion IsOrderedQueue (finite.values s.queues)
  queues_told = rows.queues

  pub jobs_told : AllByRecursion IsTellable (finite.values s.jobs)
  jobs_told = all_tellable (finite.values s.jobs) rows.jobs
