-- The spelling of each event.
use Rattle.std.specs.Prelude.{◌≡◌, ℕ, ◌≤◌, Bool, true, cond, List, [], ◌∷◌, ◌++◌, length, Option, None, Some}
use Rattle.std.specs.List.{flat_map, AllByRecursion}
use Rattle.std.specs.Int.{w8, w16, w32, w64, to_be_bytes}
use Rattle.std.specs.Str.{is_utf8}
use Rattle.spool_types.specs.declared.phase.Policy.{Policy}
use Rattle.spool_types.specs.declared.phase.Policy.TheVariants.{AbortJob, RetryJob, RetryCurrentJob, StopPrinter}
use Rattle.spool_types.specs.declared.effect.Exit.{Exit}
use Rattle.spool_types.specs.declared.effect.Exit.TheVariants.{Code, Signal, NoStart, Lost}
use Rattle.spool_types.specs.declared.effect.Level.{Level}
use Rattle.spool_types.specs.declared.effect.Level.TheVariants as levels
use Rattle.spool_types.specs.declared.effect.Attribute.{Attribute}
use Rattle.spool_types.specs.declared.effect.Effect.{Effect}
use Rattle.spool_types.specs.declared.effect.Effect.TheVariants as effect_kinds
use Rattle.spool_types.specs.declared.event.NewQueue.{NewQueue}
use Rattle.spool_types.specs.declared.event.QueueNotes.{QueueNotes}
use Rattle.spool_types.specs.declared.event.NewJob.{NewJob}
use Rattle.spool_types.specs.declared.event.Closing.{Closing}
use Rattle.spool_types.specs.declared.event.StageEnd.{StageEnd}
use Rattle.spool_types.specs.declared.event.Event.{Event}
use Rattle.spool_types.specs.declared.event.Event.TheVariants.{AddQueue, Info, SetAccept, SetStop, Create, CreateBy, Send, Close, Hold, Release, Cancel, Clock, Start, Stage, Abandon, Reopen, Purge}
use Rattle.spool_types.specs.Limits.{greatest_number, greatest_moment, greatest_attempts, longest_send}
use Rattle.spool_types.specs.Values.{is_queue_name, is_uri, is_media_type, is_user_name, is_title, is_options, is_note, is_filter_name, is_reason, is_attribute_name, is_message}
use Rattle.spool_types.specs.Effects.{AreEffects}

-- ---- fields. Numbers are big-endian

-- A text: its length in two bytes, and its bytes.
abbrev pub text_code : List ℕ → List ℕ
text_code text = to_be_bytes w16 (length text) ++ text

abbrev pub policy_number : Policy → ℕ
policy_number AbortJob = 0
policy_number RetryJob = 1
policy_number RetryCurrentJob = 2
policy_number StopPrinter = 3

-- 1 for true, 0 for false.
abbrev pub flag_code : Bool → List ℕ
flag_code flag = to_be_bytes w8 (cond flag 1 0)

-- 1 if a job is held until it is released; or 2, and the moment until which it is held.
abbrev pub until_code : Option ℕ → List ℕ
until_code None = to_be_bytes w8 1
until_code (Some m) = to_be_bytes w8 2 ++ to_be_bytes w64 m

-- The number of texts in one byte, and each text.
abbrev pub counted_code : List (List ℕ) → List ℕ
counted_code texts = to_be_bytes w8 (length texts) ++ flat_map text_code texts

-- 0 if no filters convert the document; otherwise 1, and the filters.
abbrev pub filters_code : Option (List (List ℕ)) → List ℕ
filters_code None = to_be_bytes w8 0
filters_code (Some filters) = to_be_bytes w8 1 ++ counted_code filters

-- ---- events

abbrev pub queue_code : NewQueue → List ℕ
queue_code q =
    text_code q.name
    ++ text_code q.uri
    ++ text_code q.target
    ++ to_be_bytes w8 (policy_number q.policy)
    ++ to_be_bytes w32 q.interval
    ++ to_be_bytes w16 q.limit

abbrev pub notes_code : QueueNotes → List ℕ
notes_code notes = text_code notes.queue ++ text_code notes.info ++ text_code notes.location

-- A flag of a queue.
abbrev pub flagged_code : List ℕ → Bool → List ℕ
flagged_code queue flag = text_code queue ++ flag_code flag

-- The fields of Create, except the queue and the job's number.
abbrev pub ticket_code : NewJob → List ℕ
ticket_code n =
    text_code n.user
    ++ text_code n.title
    ++ to_be_bytes w16 n.copies
    ++ to_be_bytes w8 n.priority
    ++ text_code n.options

abbrev pub job_code : NewJob → List ℕ
job_code n = text_code n.queue ++ to_be_bytes w32 n.job ++ ticket_code n

-- A job, and the moment by which it must start.
abbrev pub job_by_code : NewJob → ℕ → List ℕ
job_by_code n by = job_code n ++ to_be_bytes w64 by

abbrev pub send_code : ℕ → List ℕ → List ℕ
send_code j bytes = to_be_bytes w32 j ++ to_be_bytes w32 (length bytes) ++ bytes

abbrev pub closing_code : Closing → List ℕ
closing_code c = to_be_bytes w32 c.job ++ text_code c.media ++ filters_code c.filters

abbrev pub hold_code : ℕ → Option ℕ → List ℕ
hold_code j until = to_be_bytes w32 j ++ until_code until

-- How a child ended, and its status if it has one.
abbrev pub exit_code : Exit → List ℕ
exit_code (Code status) = to_be_bytes w8 0 ++ to_be_bytes w8 status
exit_code Signal = to_be_bytes w8 1
exit_code NoStart = to_be_bytes w8 2
exit_code Lost = to_be_bytes w8 3

-- ---- the standard error of a stage's child (filter(7))

-- A page's number, and the number of its copies.
abbrev pub pages_code : ℕ → ℕ → List ℕ
pages_code page copies = to_be_bytes w32 page ++ to_be_bytes w32 copies

-- The number of words in two bytes, and each word.
abbrev pub words_code : List (List ℕ) → List ℕ
words_code words = to_be_bytes w16 (length words) ++ flat_map text_code words

abbrev pub attribute_code : Attribute → List ℕ
attribute_code a = text_code a.name ++ text_code a.value

-- The most urgent level is first.
abbrev pub level_number : Level → ℕ
level_number levels.Emergency = 0
level_number levels.Alert = 1
level_number levels.Critical = 2
level_number levels.Error = 3
level_number levels.Warning = 4
level_number levels.Notice = 5
level_number levels.Info = 6

abbrev pub message_code : Level → List ℕ → List ℕ
message_code level text = to_be_bytes w8 (level_number level) ++ text_code text

-- The effect's kind in one byte, and its fields.
abbrev pub effect_code : Effect → List ℕ
effect_code (effect_kinds.Pages page copies) = to_be_bytes w8 1 ++ pages_code page copies
effect_code (effect_kinds.TotalPages pages) = to_be_bytes w8 2 ++ to_be_bytes w32 pages
effect_code (effect_kinds.SetReasons words) = to_be_bytes w8 3 ++ words_code words
effect_code (effect_kinds.AddReasons words) = to_be_bytes w8 4 ++ words_code words
effect_code (effect_kinds.DropReasons words) = to_be_bytes w8 5 ++ words_code words
effect_code (effect_kinds.Attribute a) = to_be_bytes w8 6 ++ attribute_code a
effect_code (effect_kinds.Message level text) = to_be_bytes w8 7 ++ message_code level text

-- The number of effects in two bytes, and each effect.
abbrev pub effects_code : List Effect → List ℕ
effects_code es = to_be_bytes w16 (length es) ++ flat_map effect_code es

abbrev pub stage_code : StageEnd → List ℕ
stage_code e =
    to_be_bytes w32 e.job
    ++ to_be_bytes w32 e.attempt
    ++ to_be_bytes w8 e.stage
    ++ exit_code e.exit
    ++ to_be_bytes w32 e.dropped
    ++ effects_code e.effects

-- The event's kind in one byte, followed by its fields in order.
abbrev pub spelling : Event → List ℕ
spelling (AddQueue q) = 0x01 ∷ queue_code q
spelling (Info notes) = 0x02 ∷ notes_code notes
spelling (SetAccept queue accepting) = 0x03 ∷ flagged_code queue accepting
spelling (SetStop queue stopped) = 0x04 ∷ flagged_code queue stopped
spelling (Create n) = 0x05 ∷ job_code n
spelling (Send j bytes) = 0x06 ∷ send_code j bytes
spelling (Close c) = 0x07 ∷ closing_code c
spelling (Hold j until) = 0x08 ∷ hold_code j until
spelling (Release j) = 0x09 ∷ to_be_bytes w32 j
spelling (Cancel j) = 0x0A ∷ to_be_bytes w32 j
spelling (Clock m) = 0x0B ∷ to_be_bytes w64 m
spelling (Start j) = 0x0C ∷ to_be_bytes w32 j
spelling (Stage e) = 0x0D ∷ stage_code e
spelling (Abandon j) = 0x0E ∷ to_be_bytes w32 j
spelling Reopen = 0x0F ∷ []
spelling (Purge j) = 0x10 ∷ to_be_bytes w32 j
spelling (CreateBy n by) = 0x11 ∷ job_by_code n by

-- ---- spellable events: their fields are within their limits, as in each value of the type

pub record IsIn (least most n : ℕ) : Type 0 where
  pub at_least : least ≤ n
  pub at_most : n ≤ most

abbrev pub IsJobNumber : ℕ → Type 0
IsJobNumber n = IsIn 1 greatest_number n

pub record IsText (allowed : List ℕ → Bool) (text : List ℕ) : Type 0 where
  pub utf8 : is_utf8 text ≡ true
  pub passes : allowed text ≡ true

pub record IsQueue (q : NewQueue) : Type 0 where
  pub name : IsText is_queue_name q.name
  pub uri : IsText is_uri q.uri
  pub target : IsText is_media_type q.target
  pub interval : IsIn 0 86400 q.interval
  pub limit : IsIn 0 65535 q.limit

pub record AreNotes (notes : QueueNotes) : Type 0 where
  pub queue : IsText is_queue_name notes.queue
  pub info : IsText is_note notes.info
  pub location : IsText is_note notes.location

pub record IsJob (n : NewJob) : Type 0 where
  pub queue : IsText is_queue_name n.queue
  pub job : IsJobNumber n.job
  pub user : IsText is_user_name n.user
  pub title : IsText is_title n.title
  pub copies : IsIn 1 9999 n.copies
  pub priority : IsIn 1 100 n.priority
  pub options : IsText is_options n.options

pub record IsJobBy (n : NewJob) (m : ℕ) : Type 0 where
  pub job : IsJob n
  pub by : IsIn 0 greatest_moment m

pub record IsSend (j : ℕ) (bytes : List ℕ) : Type 0 where
  pub job : IsJobNumber j
  pub length : length bytes ≤ longest_send

abbrev pub AreFilters : Option (List (List ℕ)) → Type 0
AreFilters None = Unit {0}
AreFilters (Some filters) = (length filters ≤ 15) × AllByRecursion (IsText is_filter_name) filters

pub record IsClosing (c : Closing) : Type 0 where
  pub job : IsJobNumber c.job
  pub media : IsText is_media_type c.media
  pub filters : AreFilters c.filters

abbrev pub IsMoment : Option ℕ → Type 0
IsMoment None = Unit {0}
IsMoment (Some m) = IsIn 0 greatest_moment m

pub record IsHold (j : ℕ) (until : Option ℕ) : Type 0 where
  pub job : IsJobNumber j
  pub moment : IsMoment until

-- The status of a child is a byte.
abbrev pub IsExit : Exit → Type 0
IsExit (Code status) = IsIn 0 255 status
IsExit Signal = Unit {0}
IsExit NoStart = Unit {0}
IsExit Lost = Unit {0}

pub record IsPages (p c : ℕ) : Type 0 where
  pub page : IsIn 0 4294967295 p
  pub copies : IsIn 0 4294967295 c

pub record AreWords (words : List (List ℕ)) : Type 0 where
  pub count : length words ≤ 65535
  pub each : AllByRecursion (IsText is_reason) words

pub record IsAttribute (a : Attribute) : Type 0 where
  pub name : IsText is_attribute_name a.name
  pub value : IsText is_message a.value

abbrev pub IsEffect : Effect → Type 0
IsEffect (effect_kinds.Pages page copies) = IsPages page copies
IsEffect (effect_kinds.TotalPages pages) = IsIn 0 4294967295 pages
IsEffect (effect_kinds.SetReasons words) = AreWords words
IsEffect (effect_kinds.AddReasons words) = AreWords words
IsEffect (effect_kinds.DropReasons words) = AreWords words
IsEffect (effect_kinds.Attribute a) = IsAttribute a
IsEffect (effect_kinds.Message level text) = IsText is_message text

pub record IsStageEnd (e : StageEnd) : Type 0 where
  pub job : IsJobNumber e.job
  pub attempt : IsIn 1 greatest_attempts e.attempt
  pub stage : IsIn 1 16 e.stage
  pub exit : IsExit e.exit
  pub dropped : IsIn 0 4294967295 e.dropped
  pub effects : AreEffects e.effects
  pub each : AllByRecursion IsEffect e.effects

abbrev pub IsSpellable : Event → Type 0
IsSpellable (AddQueue q) = IsQueue q
IsSpellable (Info notes) = AreNotes notes
IsSpellable (SetAccept queue accepting) = IsText is_queue_name queue
IsSpellable (SetStop queue stopped) = IsText is_queue_name queue
IsSpellable (Create n) = IsJob n
IsSpellable (Send j bytes) = IsSend j bytes
IsSpellable (Close c) = IsClosing c
IsSpellable (Hold j until) = IsHold j until
IsSpellable (Release j) = IsJobNumber j
IsSpellable (Cancel j) = IsJobNumber j
IsSpellable (Clock m) = IsIn 0 greatest_moment m
IsSpellable (Start j) = IsJobNumber j
IsSpellable (Stage e) = IsStageEnd e
IsSpellable (Abandon j) = IsJobNumber j
IsSpellable (Purge j) = IsJobNumber j
IsSpellable (CreateBy n by) = IsJobBy n by
IsSpellable Reopen = Unit {0}
