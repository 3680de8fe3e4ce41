-- When a queue may not be edited.
use Rattle.std.specs.Prelude.{◌&&◌, ℕ, Bool, false, not, cond, nat_eq, List, Option, None, Some}
use Rattle.std.specs.Cmp.Lexicographic.{pointwise}
use Rattle.std.specs.FinMap as map
use Rattle.std.specs.List.{list_any}
use Rattle.spool_types.specs.Busy.{is_of}
use Rattle.spool_types.specs.Phases.{has_ended}
use Rattle.spool_types.specs.State.{State, Job, queue_at}
use Rattle.spool_types.specs.declared.rows.QueueRow.{QueueRow}
use Rattle.queue_edits.specs.declared.change.QueueChange.{QueueChange}
use Rattle.queue_edits.specs.declared.refusals.EditRefusal.{EditRefusal}
use Rattle.queue_edits.specs.declared.refusals.EditRefusal.TheVariants.{Ended, NoQueue, Unended}

-- The job is one of the queue, and has not ended.
abbrev pub is_unended_of : List ℕ → Job → Bool
is_unended_of name r = is_of name r && not (has_ended r.phase)

abbrev pub has_unended : List ℕ → State → Bool
has_unended name s = list_any (is_unended_of name) (map.values s.jobs)

abbrev pub has_job : List ℕ → State → Bool
has_job name s = list_any (is_of name) (map.values s.jobs)

-- The given media type, if any, is another one.
abbrev pub is_other : Option (List ℕ) → List ℕ → Bool
is_other None old = false
is_other (Some new) old = not (pointwise nat_eq new old)

abbrev pub changes_media : QueueChange → QueueRow → Bool
changes_media c q = is_other c.media q.target

-- A change is refused if the queue does not exist, or gets another media type while a job of it has not ended.
abbrev pub refusal_for : QueueChange → Bool → Option QueueRow → Option EditRefusal
refusal_for c unended None = Some NoQueue
refusal_for c unended (Some q) = cond (changes_media c q && unended) (Some Unended) None

abbrev pub change_refusal : List ℕ → QueueChange → State → Option EditRefusal
change_refusal name c s = refusal_for c (has_unended name s) (queue_at s name)

-- A removal is refused if the queue does not exist, a job of it has not ended, or one has ended and may not be removed.
abbrev pub refusal_of : Bool → Bool → Bool → Option QueueRow → Option EditRefusal
refusal_of purge unended jobs None = Some NoQueue
refusal_of purge unended jobs (Some q) = cond unended (Some Unended) (cond (not purge && jobs) (Some Ended) None)

abbrev pub removal_refusal : List ℕ → Bool → State → Option EditRefusal
removal_refusal name purge s = refusal_of purge (has_unended name s) (has_job name s) (queue_at s name)
