-- The spelling of each row of a listing.
use Rattle.std.specs.Prelude.{◌≡◌, ℕ, ◌+◌, ◌≤◌, Bool, true, List, [], ◌∷◌, ◌++◌, length, map, Option, None, Some}
use Rattle.std.specs.List.{flat_map, AllByRecursion}
use Rattle.std.specs.Int.{w8, w32, w64, to_be_bytes}
use Rattle.std.specs.Ordering.{nat_cmp, is_lt}
use Rattle.std.specs.Cmp.Lexicographic.{slice_cmp}
use Rattle.spool_types.specs.declared.phase.Hold.{Hold}
use Rattle.spool_types.specs.declared.phase.Hold.TheVariants.{Free, Indefinite, Until}
use Rattle.spool_types.specs.declared.phase.HoldReason.{HoldReason}
use Rattle.spool_types.specs.declared.phase.HoldReason.TheVariants.{Unspecified, Authentication, Backend}
use Rattle.spool_types.specs.declared.phase.AbortReason.{AbortReason}
use Rattle.spool_types.specs.declared.phase.AbortReason.TheVariants.{FilterFailed, BackendFailed, RetryLimit, AttemptLost, NoFilter}
use Rattle.spool_types.specs.declared.phase.Phase.{Phase}
use Rattle.spool_types.specs.declared.phase.Phase.TheVariants.{Incoming, Waiting, Processing, Completed, Canceled, Aborted}
use Rattle.spool_types.specs.declared.effect.Attribute.{Attribute}
use Rattle.spool_types.specs.declared.event.NewQueue.{NewQueue}
use Rattle.spool_types.specs.declared.event.NewJob.{NewJob}
use Rattle.spool_types.specs.declared.rows.QueueRow.{QueueRow}
use Rattle.spool_types.specs.declared.rows.Job.{Job as JobOf}
use Rattle.spool_types.specs.declared.listing.Head.{Head as HeadOf}
use Rattle.spool_types.specs.declared.version.Version.{Version}
use Rattle.spool_types.specs.declared.version.Version.TheVariants.{One, Two}
use Rattle.spool_types.specs.declared.listing.Row.{Row}
use Rattle.spool_types.specs.declared.listing.Row.TheVariants.{Head, Queue, Job, Piece}
use Rattle.spool_types.specs.Limits.{greatest_number, greatest_moment, longest_document, longest_send}
use Rattle.spool_types.specs.Values.{is_media_type, is_note, is_message, is_reason}
use Rattle.event_codec.specs.Spelling.{text_code, counted_code, flag_code, queue_code, ticket_code, send_code, attribute_code, IsIn, IsJobNumber, IsText, IsQueue, IsJob, AreFilters, IsAttribute}

-- ---- fields. Numbers are big-endian

abbrev pub hold_reason_number : HoldReason → ℕ
hold_reason_number Unspecified = 0
hold_reason_number Authentication = 1
hold_reason_number Backend = 2

abbrev pub holding_code : Hold → List ℕ
holding_code Free = to_be_bytes w8 0
holding_code (Indefinite reason) = to_be_bytes w8 1 ++ to_be_bytes w8 (hold_reason_number reason)
holding_code (Until m) = to_be_bytes w8 2 ++ to_be_bytes w64 m

abbrev pub abort_reason_number : AbortReason → ℕ
abort_reason_number FilterFailed = 0
abort_reason_number BackendFailed = 1
abort_reason_number RetryLimit = 2
abort_reason_number AttemptLost = 3
abort_reason_number NoFilter = 4

abbrev pub waiting_code : Hold → ℕ → Bool → List ℕ
waiting_code hold not_before first = holding_code hold ++ to_be_bytes w64 not_before ++ flag_code first

-- The attempt of a processing job is the number of attempts of its row, and its stages are its filters and the backend.
abbrev pub phase_code : Phase → List ℕ
phase_code (Incoming hold) = to_be_bytes w8 0 ++ holding_code hold
phase_code (Waiting hold not_before first) = to_be_bytes w8 1 ++ waiting_code hold not_before first
phase_code (Processing attempt stage stages) = to_be_bytes w8 2 ++ to_be_bytes w8 stage
phase_code Completed = to_be_bytes w8 3
phase_code Canceled = to_be_bytes w8 4
phase_code (Aborted reason) = to_be_bytes w8 5 ++ to_be_bytes w8 (abort_reason_number reason)

-- 0 if the job has no media type yet; otherwise 1, and the type.
abbrev pub typed_code : Option (List ℕ) → List ℕ
typed_code None = to_be_bytes w8 0
typed_code (Some media) = to_be_bytes w8 1 ++ text_code media

-- 0 if the job may start at any time; otherwise 1, and the moment by which it must start. Version 1 has no such field.
abbrev pub by_code : Version → Option ℕ → List ℕ
by_code One by = []
by_code Two None = to_be_bytes w8 0
by_code Two (Some m) = to_be_bytes w8 1 ++ to_be_bytes w64 m

-- The number of attributes in one byte, and each attribute.
abbrev pub attributes_code : List Attribute → List ℕ
attributes_code attributes = to_be_bytes w8 (length attributes) ++ flat_map attribute_code attributes

-- ---- rows

abbrev pub head_code : HeadOf → List ℕ
head_code head = to_be_bytes w32 head.highest ++ to_be_bytes w64 head.moment

-- The queue with the fields of its AddQueue event.
abbrev pub new_queue_of : QueueRow → NewQueue
new_queue_of q = record { name = q.name; uri = q.uri; target = q.target; policy = q.policy; interval = q.interval; limit = q.limit }

-- The descriptions and the state of a queue.
abbrev pub queue_state_code : QueueRow → List ℕ
queue_state_code q =
    text_code q.info
    ++ text_code q.location
    ++ flag_code q.accepting
    ++ flag_code q.stopped
    ++ text_code q.message
    ++ counted_code q.reasons
    ++ attributes_code q.attributes

abbrev pub queue_row_code : QueueRow → List ℕ
queue_row_code q = queue_code (new_queue_of q) ++ queue_state_code q

-- The job with the fields of its Create event.
abbrev pub new_job_of : JobOf → NewJob
new_job_of r = record { queue = r.queue; job = r.id; user = r.user; title = r.title; copies = r.copies; priority = r.priority; options = r.options }

-- The fields of a job's Create event. The job's number is first.
abbrev pub created_code : NewJob → List ℕ
created_code n = to_be_bytes w32 n.job ++ text_code n.queue ++ ticket_code n

-- The state of a job.
abbrev pub job_state_code : JobOf → List ℕ
job_state_code r =
    typed_code r.media
    ++ counted_code r.filters
    ++ to_be_bytes w32 r.attempts
    ++ to_be_bytes w32 r.pages
    ++ to_be_bytes w32 r.size
    ++ phase_code r.phase

-- The fields after those of its Create event, in this version.
abbrev pub job_rest_code : Version → JobOf → List ℕ
job_rest_code version r = job_state_code r ++ by_code version r.by

abbrev pub job_row_code : Version → JobOf → List ℕ
job_row_code version r = created_code (new_job_of r) ++ job_rest_code version r

-- The row's kind in one byte, followed by its fields in order.
abbrev pub row_spelling : Version → Row → List ℕ
row_spelling version (Head head) = 0x40 ∷ head_code head
row_spelling version (Queue q) = 0x41 ∷ queue_row_code q
row_spelling version (Job r) = 0x42 ∷ job_row_code version r
row_spelling version (Piece j bytes) = 0x43 ∷ send_code j bytes

-- ---- spellable rows. First the limits that the types of a row's fields have

pub record IsQueueState (q : QueueRow) : Type 0 where
  pub info : IsText is_note q.info
  pub location : IsText is_note q.location
  pub message : IsText is_message q.message
  pub few_reasons : length q.reasons ≤ 64
  pub reasons : AllByRecursion (IsText is_reason) q.reasons
  pub few_attributes : length q.attributes ≤ 64
  pub attributes : AllByRecursion IsAttribute q.attributes

pub record HasQueueFields (q : QueueRow) : Type 0 where
  pub added : IsQueue (new_queue_of q)
  pub state : IsQueueState q

abbrev pub IsHolding : Hold → Type 0
IsHolding Free = Unit {0}
IsHolding (Indefinite reason) = Unit {0}
IsHolding (Until m) = IsIn 0 greatest_moment m

pub record IsWaitingFor (hold : Hold) (not_before : ℕ) : Type 0 where
  pub held : IsHolding hold
  pub moment : IsIn 0 greatest_moment not_before

abbrev pub HasMoments : Phase → Type 0
HasMoments (Incoming hold) = IsHolding hold
HasMoments (Waiting hold not_before first) = IsWaitingFor hold not_before
HasMoments (Processing attempt stage stages) = Unit {0}
HasMoments Completed = Unit {0}
HasMoments Canceled = Unit {0}
HasMoments (Aborted reason) = Unit {0}

abbrev pub IsTyped : Option (List ℕ) → Type 0
IsTyped None = Unit {0}
IsTyped (Some media) = IsText is_media_type media

pub record IsJobState (r : JobOf) : Type 0 where
  pub media : IsTyped r.media
  pub filters : AreFilters (Some r.filters)
  pub attempts : IsIn 0 4294967295 r.attempts
  pub pages : IsIn 0 4294967295 r.pages
  pub phase : HasMoments r.phase

-- A job of version 1 has no moment.
abbrev pub IsBy : Version → Option ℕ → Type 0
IsBy One None = Unit {0}
IsBy One (Some m) = ⊥
IsBy Two None = Unit {0}
IsBy Two (Some m) = IsIn 0 greatest_moment m

pub record HasJobFields (version : Version) (r : JobOf) : Type 0 where
  pub created : IsJob (new_job_of r)
  pub state : IsJobState r
  pub by : IsBy version r.by

pub record HasPieceFields (j : ℕ) (bytes : List ℕ) : Type 0 where
  pub job : IsJobNumber j
  pub length : length bytes ≤ longest_send

abbrev pub HasFields : Version → Row → Type 0
HasFields version (Head head) = IsIn 0 greatest_moment head.moment
HasFields version (Queue q) = HasQueueFields q
HasFields version (Job r) = HasJobFields version r
HasFields version (Piece j bytes) = HasPieceFields j bytes

-- ---- and then the conditions that no type of a field states

-- Each text is above the previous one, compared by bytes.
abbrev pub Ascend : List (List ℕ) → Type 0
Ascend [] = Unit {0}
Ascend (a ∷ []) = Unit {0}
Ascend (a ∷ b ∷ rest) = (is_lt (slice_cmp nat_cmp a b) ≡ true) × Ascend (b ∷ rest)

abbrev pub name_of : Attribute → List ℕ
name_of a = a.name

pub record IsOrderedQueue (q : QueueRow) : Type 0 where
  pub reasons : Ascend q.reasons
  pub attributes : Ascend (map name_of q.attributes)

-- The attempt and the stages of a processing job, as its row determines them.
pub record IsNewestAttempt (r : JobOf) (attempt stage stages : ℕ) : Type 0 where
  pub newest : attempt ≡ r.attempts
  pub stage_is : IsIn 1 16 stage
  pub of_all : stages ≡ length r.filters + 1

abbrev pub IsPhaseOf : JobOf → Phase → Type 0
IsPhaseOf r (Incoming hold) = Unit {0}
IsPhaseOf r (Waiting hold not_before first) = Unit {0}
IsPhaseOf r (Processing attempt stage stages) = IsNewestAttempt r attempt stage stages
IsPhaseOf r Completed = Unit {0}
IsPhaseOf r Canceled = Unit {0}
IsPhaseOf r (Aborted reason) = Unit {0}

pub record IsLegalJob (r : JobOf) : Type 0 where
  pub size : IsIn 0 longest_document r.size
  pub phase : IsPhaseOf r r.phase

abbrev pub IsLegalRow : Row → Type 0
IsLegalRow (Head head) = IsIn 0 greatest_number head.highest
IsLegalRow (Queue q) = IsOrderedQueue q
IsLegalRow (Job r) = IsLegalJob r
IsLegalRow (Piece j bytes) = 1 ≤ length bytes

pub record IsRowSpellable (version : Version) (row : Row) : Type 0 where
  pub fields : HasFields version row
  pub legal : IsLegalRow row
