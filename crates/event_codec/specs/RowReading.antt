-- Reading a row of a listing from left to right, up to the first error.
use Rattle.std.specs.Prelude.{ℕ, ◌+◌, ◌-◌, List, slice_get, [], ◌∷◌, length, Bool, true, false, Option, Some, None, Result, Ok, Err, is_ok, ◌==◌, if◌then◌else◌}
use Rattle.std.specs.Int.{w8, w32, w64}
use Rattle.std.specs.Ordering.{nat_cmp, is_lt}
use Rattle.std.specs.Cmp.Lexicographic.{slice_cmp}
use Rattle.spool_types.specs.declared.phase.Hold.{Hold}
use Rattle.spool_types.specs.declared.phase.Hold.TheVariants.{Free, Indefinite, Until}
use Rattle.spool_types.specs.declared.phase.HoldReason.{HoldReason}
use Rattle.spool_types.specs.declared.phase.HoldReason.TheVariants.{Unspecified, Authentication, Backend}
use Rattle.spool_types.specs.declared.phase.AbortReason.{AbortReason}
use Rattle.spool_types.specs.declared.phase.AbortReason.TheVariants.{FilterFailed, BackendFailed, RetryLimit, AttemptLost, NoFilter}
use Rattle.spool_types.specs.declared.phase.Phase.{Phase}
use Rattle.spool_types.specs.declared.phase.Phase.TheVariants.{Incoming, Waiting, Processing, Completed, Canceled, Aborted}
use Rattle.spool_types.specs.declared.effect.Attribute.{Attribute}
use Rattle.spool_types.specs.declared.event.NewQueue.{NewQueue}
use Rattle.spool_types.specs.declared.event.NewJob.{NewJob}
use Rattle.spool_types.specs.declared.rows.QueueRow.{QueueRow}
use Rattle.spool_types.specs.declared.rows.Job.{Job as JobOf}
use Rattle.spool_types.specs.declared.version.Version.{Version}
use Rattle.spool_types.specs.declared.version.Version.TheVariants.{One, Two}
use Rattle.spool_types.specs.declared.listing.Row.{Row}
use Rattle.event_codec.specs.declared.row_reading.QueueState.{QueueState}
use Rattle.event_codec.specs.declared.row_reading.JobState.{JobState}
use Rattle.spool_types.specs.declared.listing.Row.TheVariants.{Head, Queue, Job, Piece}
use Rattle.spool_types.specs.Limits.{greatest_number, greatest_moment, longest_document}
use Rattle.spool_types.specs.Values.{is_queue_name, is_media_type, is_note, is_reason, is_attribute_name, is_message}
use Rattle.field_codec.specs.declared.fault.CodecFault.{CodecFault}
use Rattle.field_codec.specs.declared.fault.CodecFault.TheVariants.{Kind, Length, Range}
use Rattle.event_codec.specs.EventReading.{Field, ◌>>=◌, number_at, checked, ranged_at, text_at, flag_at, list_at, filters_at, new_queue_at, ticket_at, piece_at, whole}

-- ---- phases

unfoldable pub hold_reason_of : ℕ → Result HoldReason CodecFault
hold_reason_of n =
    if n == 0 then Ok Unspecified
    else if n == 1 then Ok Authentication
    else if n == 2 then Ok Backend
    else Err Range

unfoldable pub indefinite_at : List ℕ → Field Hold
indefinite_at bytes = do
  n ← number_at w8 bytes
  reason ← hold_reason_of n.0
  Ok (Indefinite reason, n.1)

unfoldable pub until_moment_at : List ℕ → Field Hold
until_moment_at bytes = do
  moment ← ranged_at 0 greatest_moment w64 bytes
  Ok (Until moment.0, moment.1)

unfoldable pub kind_of_holding : ℕ → List ℕ → Field Hold
kind_of_holding kind bytes =
    if kind == 0 then Ok (Free, bytes)
    else if kind == 1 then indefinite_at bytes
    else if kind == 2 then until_moment_at bytes
    else Err Range

unfoldable pub holding_at : List ℕ → Field Hold
holding_at bytes = do
  kind ← number_at w8 bytes
  kind_of_holding kind.0 kind.1

unfoldable pub abort_reason_of : ℕ → Result AbortReason CodecFault
abort_reason_of n =
    if n == 0 then Ok FilterFailed
    else if n == 1 then Ok BackendFailed
    else if n == 2 then Ok RetryLimit
    else if n == 3 then Ok AttemptLost
    else if n == 4 then Ok NoFilter
    else Err Range

unfoldable pub incoming_at : List ℕ → Field Phase
incoming_at bytes = do
  hold ← holding_at bytes
  Ok (Incoming hold.0, hold.1)

unfoldable pub waiting_at : List ℕ → Field Phase
waiting_at bytes = do
  hold ← holding_at bytes
  moment ← ranged_at 0 greatest_moment w64 hold.1
  first ← flag_at moment.1
  Ok (Waiting hold.0 moment.0 first.0, first.1)

-- The attempt is the newest, and there are this many stages.
unfoldable pub processing_at : ℕ → ℕ → List ℕ → Field Phase
processing_at attempts stages bytes = do
  stage ← ranged_at 1 16 w8 bytes
  Ok (Processing attempts stage.0 stages, stage.1)

unfoldable pub aborted_at : List ℕ → Field Phase
aborted_at bytes = do
  n ← number_at w8 bytes
  reason ← abort_reason_of n.0
  Ok (Aborted reason, n.1)

unfoldable pub kind_of_phase : ℕ → ℕ → ℕ → List ℕ → Field Phase
kind_of_phase attempts stages kind bytes =
    if kind == 0 then incoming_at bytes
    else if kind == 1 then waiting_at bytes
    else if kind == 2 then processing_at attempts stages bytes
    else if kind == 3 then Ok (Completed, bytes)
    else if kind == 4 then Ok (Canceled, bytes)
    else if kind == 5 then aborted_at bytes
    else Err Range

-- The phase of a job with this number of attempts and stages.
unfoldable pub phase_at : ℕ → ℕ → List ℕ → Field Phase
phase_at attempts stages bytes = do
  kind ← number_at w8 bytes
  kind_of_phase attempts stages kind.0 kind.1

-- ---- an optional media type, and lists in ascending order

unfoldable pub some_media_at : List ℕ → Field (Option (List ℕ))
some_media_at bytes = do
  media ← text_at is_media_type bytes
  Ok (Some media.0, media.1)

unfoldable pub flagged_media_at : ℕ → List ℕ → Field (Option (List ℕ))
flagged_media_at flag bytes =
    if flag == 0 then Ok (None, bytes)
    else if flag == 1 then some_media_at bytes
    else Err Range

unfoldable pub typed_at : List ℕ → Field (Option (List ℕ))
typed_at bytes = do
  flag ← number_at w8 bytes
  flagged_media_at flag.0 flag.1

-- The last of the texts that were read.
abbrev pub last_of : List (List ℕ) → Option (List ℕ)
last_of texts = slice_get texts (length texts - 1)

-- A text is above the previous one, if there is one.
abbrev pub is_above : Option (List ℕ) → List ℕ → Bool
is_above None text = true
is_above (Some before) text = is_lt (slice_cmp nat_cmp before text)

-- An item after one with this key: the item, its own key, and the bytes after it.
abbrev pub Item : Type 0 → Type 0
Item A = Result (A × (Option (List ℕ) × List ℕ)) CodecFault

unfoldable pub reason_after : Option (List ℕ) × List ℕ → Item (List ℕ)
reason_after from = do
  text ← text_at is_reason from.1
  reason ← checked (is_above from.0 text.0) text.0
  Ok (reason, (Some reason, text.1))

-- A name that is not above the previous one is an error before its value is read.
unfoldable pub attribute_after : Option (List ℕ) × List ℕ → Item Attribute
attribute_after from = do
  text ← text_at is_attribute_name from.1
  name ← checked (is_above from.0 text.0) text.0
  value ← text_at is_message text.1
  Ok (record { name = name; value = value.0 }, (Some name, value.1))

-- The items, which follow their number, each above the previous one.
unfoldable pub ascending_at : {A : Type 0} → (Option (List ℕ) × List ℕ → Item A) → List ℕ → Field (List A)
ascending_at one bytes = do
  count ← ranged_at 0 64 w8 bytes
  items ← list_at one count.0 (None, count.1)
  Ok (items.0, items.1.1)

unfoldable pub reasons_at : List ℕ → Field (List (List ℕ))
reasons_at bytes = ascending_at reason_after bytes

unfoldable pub attributes_at : List ℕ → Field (List Attribute)
attributes_at bytes = ascending_at attribute_after bytes

-- ---- rows

unfoldable pub head_at : List ℕ → Field Row
head_at bytes = do
  highest ← ranged_at 0 greatest_number w32 bytes
  moment ← ranged_at 0 greatest_moment w64 highest.1
  Ok (Head (record { highest = highest.0; moment = moment.0 }), moment.1)

-- The descriptions and the state of a queue.
unfoldable pub queue_state_at : List ℕ → Field QueueState
queue_state_at bytes = do
  info ← text_at is_note bytes
  location ← text_at is_note info.1
  accepting ← flag_at location.1
  stopped ← flag_at accepting.1
  message ← text_at is_message stopped.1
  reasons ← reasons_at message.1
  attributes ← attributes_at reasons.1
  Ok (record { info = info.0; location = location.0; accepting = accepting.0; stopped = stopped.0; message = message.0; reasons = reasons.0; attributes = attributes.0 }, attributes.1)

-- The row of a queue with these fields of AddQueue and this state.
abbrev pub queue_row : NewQueue → QueueState → QueueRow
queue_row queue state = record { name = queue.name; uri = queue.uri; target = queue.target; policy = queue.policy; interval = queue.interval; limit = queue.limit; info = state.info; location = state.location; accepting = state.accepting; stopped = state.stopped; message = state.message; reasons = state.reasons; attributes = state.attributes }

unfoldable pub listed_queue_at : List ℕ → Field QueueRow
listed_queue_at bytes = do
  queue ← new_queue_at bytes
  state ← queue_state_at queue.1
  Ok (queue_row queue.0 state.0, state.1)

unfoldable pub queue_row_at : List ℕ → Field Row
queue_row_at bytes = do
  queue ← listed_queue_at bytes
  Ok (Queue queue.0, queue.1)

unfoldable pub created_at : List ℕ → Field NewJob
created_at bytes = do
  job ← ranged_at 1 greatest_number w32 bytes
  queue ← text_at is_queue_name job.1
  ticket_at queue.0 job.0 queue.1

-- The state of a job.
unfoldable pub job_state_at : List ℕ → Field JobState
job_state_at bytes = do
  media ← typed_at bytes
  filters ← filters_at media.1
  attempts ← number_at w32 filters.1
  pages ← number_at w32 attempts.1
  size ← ranged_at 0 longest_document w32 pages.1
  phase ← phase_at attempts.0 (length filters.0 + 1) size.1
  Ok (record { media = media.0; filters = filters.0; attempts = attempts.0; pages = pages.0; size = size.0; phase = phase.0 }, phase.1)

-- The moment by which a job must start, if it has one.
unfoldable pub some_by_at : List ℕ → Field (Option ℕ)
some_by_at bytes = do
  moment ← ranged_at 0 greatest_moment w64 bytes
  Ok (Some moment.0, moment.1)

unfoldable pub flagged_by_at : ℕ → List ℕ → Field (Option ℕ)
flagged_by_at flag bytes =
    if flag == 0 then Ok (None, bytes)
    else if flag == 1 then some_by_at bytes
    else Err Range

unfoldable pub by_at : Version → List ℕ → Field (Option ℕ)
by_at One bytes = Ok (None, bytes)
by_at Two bytes = do
  flag ← number_at w8 bytes
  flagged_by_at flag.0 flag.1

-- The row of a job with these fields of Create and this state, which must start by this moment.
abbrev pub job_row : NewJob → JobState → Option ℕ → JobOf
job_row job state by = record { id = job.job; queue = job.queue; user = job.user; title = job.title; copies = job.copies; priority = job.priority; options = job.options; media = state.media; filters = state.filters; attempts = state.attempts; pages = state.pages; size = state.size; phase = state.phase; by = by }

unfoldable pub listed_job_at : Version → List ℕ → Field JobOf
listed_job_at version bytes = do
  job ← created_at bytes
  state ← job_state_at job.1
  by ← by_at version state.1
  Ok (job_row job.0 state.0 by.0, by.1)

unfoldable pub job_row_at : Version → List ℕ → Field Row
job_row_at version bytes = do
  job ← listed_job_at version bytes
  Ok (Job job.0, job.1)

unfoldable pub piece_row_at : List ℕ → Field Row
piece_row_at bytes = do
  job ← ranged_at 1 greatest_number w32 bytes
  piece ← piece_at 1 job.1
  Ok (Piece job.0 piece.0, piece.1)

-- The fields of a row of this kind.
unfoldable pub row_fields_at : Version → ℕ → List ℕ → Field Row
row_fields_at version kind bytes =
    if kind == 0x40 then head_at bytes
    else if kind == 0x41 then queue_row_at bytes
    else if kind == 0x42 then job_row_at version bytes
    else if kind == 0x43 then piece_row_at bytes
    else Err Kind

unfoldable pub row_at : Version → List ℕ → Field Row
row_at version [] = Err Length
row_at version (kind ∷ bytes) = row_fields_at version kind bytes

-- The row that all the bytes encode in this version.
abbrev pub row_reading : Version → List ℕ → Result Row CodecFault
row_reading version payload = whole (row_at version payload)

-- ---- memory: whether reading reaches a value that is copied

-- The name of a job's queue.
unfoldable pub job_row_copies : List ℕ → Bool
job_row_copies bytes = is_ok (ranged_at 1 greatest_number w32 bytes >>= λ job. text_at is_queue_name job.1)

-- The first text of a row of this kind, or the bytes of a piece, are valid.
unfoldable pub row_fields_copy : ℕ → List ℕ → Bool
row_fields_copy kind bytes =
    if kind == 0x41 then is_ok (text_at is_queue_name bytes)
    else if kind == 0x42 then job_row_copies bytes
    else if kind == 0x43 then is_ok (piece_row_at bytes)
    else false

-- A value is copied before the first error.
unfoldable pub reaches_row_copy : List ℕ → Bool
reaches_row_copy [] = false
reaches_row_copy (kind ∷ bytes) = row_fields_copy kind bytes
