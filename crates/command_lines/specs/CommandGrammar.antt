-- The meaning of a line: the table of commands, by their first words.
use Rattle.std.specs.Prelude.{ℕ, Bool, true, false, cond, nat_lt, ◌==◌, List, [], ◌∷◌, length, codes, nat_eq, Option, None, Some}
use Rattle.std.specs.Cmp.Lexicographic.{pointwise}
use Rattle.std.specs.Option.{option_map, option_and_then}
use Rattle.spool_types.specs.Limits.{greatest_number, greatest_moment}
use Rattle.spool_types.specs.Values.{is_queue_name, is_uri, is_user_name, is_title, is_options, is_note, is_file_name, text_in, media_in}
use Rattle.spool_types.specs.declared.phase.Policy.{Policy}
use Rattle.spool_types.specs.declared.phase.Policy.TheVariants.{AbortJob, RetryJob, RetryCurrentJob, StopPrinter}
use Rattle.spool_types.specs.Phases.{policy_word}
use Rattle.command_lines.specs.CommandWords.{words_of}
use Rattle.command_lines.specs.CommandNumbers.{ranged}
use Rattle.spool_types.specs.declared.event.Event.{Event}
use Rattle.spool_types.specs.declared.event.Event.TheVariants.{Info, SetAccept, SetStop, Hold, Release, Abandon, Cancel, Purge, Clock}
use Rattle.command_lines.specs.declared.command.Command.TheVariants.{Apply, Queue, Create, Close, Jobs, Queues, Round, Drain, Checkpoint, Malformed}
use Rattle.command_lines.specs.declared.command.Kind.{Kind}
use Rattle.command_lines.specs.declared.command.Kind.TheVariants.{Remark, Says, Takes}

-- ## The values of words

-- The word is this one.
abbrev pub is_word : List ℕ → List ℕ → Bool
is_word word name = pointwise nat_eq word name

abbrev pub policy_in : List ℕ → Option Policy
policy_in word =
    cond (is_word word (policy_word AbortJob)) (Some AbortJob)
    (cond (is_word word (policy_word RetryJob)) (Some RetryJob)
    (cond (is_word word (policy_word RetryCurrentJob)) (Some RetryCurrentJob)
    (cond (is_word word (policy_word StopPrinter)) (Some StopPrinter)
    None)))

abbrev pub job_in : List ℕ → Option ℕ
job_in word = ranged 1 greatest_number word

-- In seconds.
abbrev pub moment_in : List ℕ → Option ℕ
moment_in word = ranged 0 greatest_moment word

abbrev pub copies_in : List ℕ → Option ℕ
copies_in word = ranged 1 9999 word

abbrev pub priority_in : List ℕ → Option ℕ
priority_in word = ranged 1 100 word

-- In seconds.
abbrev pub interval_in : List ℕ → Option ℕ
interval_in word = ranged 0 86400 word

abbrev pub limit_in : List ℕ → Option ℕ
limit_in word = ranged 0 65535 word

-- The greatest number of rounds.
abbrev pub rounds_in : List ℕ → Option ℕ
rounds_in word = ranged 1 1000 word

-- The number of bytes that a send announces.
abbrev pub count_in : List ℕ → Option ℕ
count_in word = ranged 0 4294967295 word

-- ## The commands of one word: an event of a queue, of a job, or of a moment

abbrev pub queue_in : List ℕ → Option (List ℕ)
queue_in word = text_in is_queue_name word

abbrev pub one_word : List ℕ → List ℕ → Option Event
one_word name word =
    cond (is_word name (codes "accept")) (option_map (λ queue. SetAccept queue true) (queue_in word))
    (cond (is_word name (codes "reject")) (option_map (λ queue. SetAccept queue false) (queue_in word))
    (cond (is_word name (codes "enable")) (option_map (λ queue. SetStop queue false) (queue_in word))
    (cond (is_word name (codes "disable")) (option_map (λ queue. SetStop queue true) (queue_in word))
    (cond (is_word name (codes "release")) (option_map (λ job. Release job) (job_in word))
    (cond (is_word name (codes "cancel")) (option_map (λ job. Cancel job) (job_in word))
    (cond (is_word name (codes "abandon")) (option_map (λ job. Abandon job) (job_in word))
    (cond (is_word name (codes "purge")) (option_map (λ job. Purge job) (job_in word))
    (cond (is_word name (codes "clock")) (option_map (λ moment. Clock moment) (moment_in word))
    None))))))))

abbrev pub one_word_line : List ℕ → List (List ℕ) → Option Kind
one_word_line name (word ∷ []) = option_map (λ event. Says (Apply event)) (one_word name word)
one_word_line name words = None

-- ## The other commands, each by the words that follow its name

abbrev pub new_queue_of : Option (List ℕ) → Option (List ℕ) → Option (List ℕ) → Option Policy → Option ℕ → Option ℕ → Option Kind
new_queue_of (Some name) (Some uri) (Some target) (Some policy) (Some interval) (Some limit) =
    Some (Says (Queue (record { name = name; uri = uri; target = target; policy = policy; interval = interval; limit = limit })))
new_queue_of name uri target policy interval limit = None

-- NAME URI TYPE POLICY [INTERVAL [LIMIT]]
abbrev pub queue_line : List (List ℕ) → Option Kind
queue_line (name ∷ uri ∷ target ∷ policy ∷ []) =
    new_queue_of (text_in is_queue_name name) (text_in is_uri uri) (media_in target) (policy_in policy) (Some 30) (Some 5)
queue_line (name ∷ uri ∷ target ∷ policy ∷ interval ∷ []) =
    new_queue_of (text_in is_queue_name name) (text_in is_uri uri) (media_in target) (policy_in policy) (interval_in interval) (Some 5)
queue_line (name ∷ uri ∷ target ∷ policy ∷ interval ∷ limit ∷ []) =
    new_queue_of (text_in is_queue_name name) (text_in is_uri uri) (media_in target) (policy_in policy) (interval_in interval) (limit_in limit)
queue_line words = None

abbrev pub info_of : Option (List ℕ) → Option (List ℕ) → Option (List ℕ) → Option Kind
info_of (Some queue) (Some info) (Some location) = Some (Says (Apply (Info (record { queue = queue; info = info; location = location }))))
info_of queue info location = None

-- QUEUE INFO LOCATION
abbrev pub info_line : List (List ℕ) → Option Kind
info_line (queue ∷ info ∷ location ∷ []) = info_of (text_in is_queue_name queue) (text_in is_note info) (text_in is_note location)
info_line words = None

-- A job, and the moment by which it must start, if any.
abbrev pub creation_of : Option (List ℕ) → Option (List ℕ) → Option (List ℕ) → Option ℕ → Option ℕ → Option (List ℕ) → Option ℕ → Option Kind
creation_of (Some queue) (Some user) (Some title) (Some copies) (Some priority) (Some options) by =
    Some (Says (Create (record { queue = queue; user = user; title = title; copies = copies; priority = priority; options = options; by = by })))
creation_of queue user title copies priority options by = None

abbrev pub creation_in : List ℕ → List ℕ → List ℕ → List ℕ → List ℕ → List ℕ → Option ℕ → Option Kind
creation_in queue user title copies priority options by =
    creation_of (text_in is_queue_name queue) (text_in is_user_name user) (text_in is_title title) (copies_in copies) (priority_in priority) (text_in is_options options) by

-- QUEUE USER TITLE COPIES PRIORITY OPTIONS
abbrev pub create_line : List (List ℕ) → Option Kind
create_line (queue ∷ user ∷ title ∷ copies ∷ priority ∷ options ∷ []) = creation_in queue user title copies priority options None
create_line words = None

-- The same words, followed by MOMENT.
abbrev pub createby_line : List (List ℕ) → Option Kind
createby_line (queue ∷ user ∷ title ∷ copies ∷ priority ∷ options ∷ by ∷ []) =
    option_and_then (λ moment. creation_in queue user title copies priority options (Some moment)) (moment_in by)
createby_line words = None

abbrev pub send_of : Option ℕ → Option ℕ → Option Kind
send_of (Some job) (Some count) = Some (Takes job count)
send_of job count = None

-- JOB N, and N raw bytes after the line.
abbrev pub send_line : List (List ℕ) → Option Kind
send_line (job ∷ count ∷ []) = send_of (job_in job) (count_in count)
send_line words = None

abbrev pub close_of : Option ℕ → Option (List ℕ) → Option Kind
close_of (Some job) (Some name) = Some (Says (Close job name))
close_of job name = None

-- JOB NAME
abbrev pub close_line : List (List ℕ) → Option Kind
close_line (job ∷ name ∷ []) = close_of (job_in job) (text_in is_file_name name)
close_line words = None

-- A moment, or the word `indefinite` for none.
abbrev pub until_in : List ℕ → Option (Option ℕ)
until_in word = cond (is_word word (codes "indefinite")) (Some None) (option_map (λ moment. Some moment) (moment_in word))

abbrev pub hold_of : Option ℕ → Option (Option ℕ) → Option Kind
hold_of (Some job) (Some until) = Some (Says (Apply (Hold job until)))
hold_of job until = None

-- JOB MOMENT, or JOB indefinite
abbrev pub hold_line : List (List ℕ) → Option Kind
hold_line (job ∷ until ∷ []) = hold_of (job_in job) (until_in until)
hold_line words = None

-- No words.
abbrev pub jobs_line : List (List ℕ) → Option Kind
jobs_line [] = Some (Says Jobs)
jobs_line words = None

-- No words.
abbrev pub queues_line : List (List ℕ) → Option Kind
queues_line [] = Some (Says Queues)
queues_line words = None

-- No words.
abbrev pub round_line : List (List ℕ) → Option Kind
round_line [] = Some (Says Round)
round_line words = None

-- ROUNDS
abbrev pub drain_line : List (List ℕ) → Option Kind
drain_line (count ∷ []) = option_map (λ most. Says (Drain most)) (rounds_in count)
drain_line words = None

-- No words.
abbrev pub checkpoint_line : List (List ℕ) → Option Kind
checkpoint_line [] = Some (Says Checkpoint)
checkpoint_line words = None

-- ## The table

abbrev pub line_of : List ℕ → List (List ℕ) → Option Kind
line_of name words =
    cond (is_word name (codes "jobs")) (jobs_line words)
    (cond (is_word name (codes "queues")) (queues_line words)
    (cond (is_word name (codes "round")) (round_line words)
    (cond (is_word name (codes "drain")) (drain_line words)
    (cond (is_word name (codes "checkpoint")) (checkpoint_line words)
    (cond (is_word name (codes "queue")) (queue_line words)
    (cond (is_word name (codes "info")) (info_line words)
    (cond (is_word name (codes "create")) (create_line words)
    (cond (is_word name (codes "createby")) (createby_line words)
    (cond (is_word name (codes "send")) (send_line words)
    (cond (is_word name (codes "close")) (close_line words)
    (cond (is_word name (codes "hold")) (hold_line words)
    (one_word_line name words))))))))))))

-- A line of blanks is no command.
abbrev pub kind_in : List (List ℕ) → Option Kind
kind_in [] = None
kind_in (name ∷ words) = line_of name words

-- Anything that is no command is malformed.
abbrev pub or_malformed : Option Kind → Kind
or_malformed None = Says Malformed
or_malformed (Some kind) = kind

-- The meaning of the words, unless one is broken.
abbrev pub kind_of_words : Option (List (List ℕ)) → Kind
kind_of_words None = Says Malformed
kind_of_words (Some words) = or_malformed (kind_in words)

-- An empty line, and one that begins with '#', is ignored.
abbrev pub is_remark : List ℕ → Bool
is_remark [] = true
is_remark (b ∷ bs) = b == 35

-- The meaning of a line. It has at most 4,096 bytes, unless it is a remark.
unfoldable pub kind_of : List ℕ → Kind
kind_of line = cond (is_remark line) Remark (cond (nat_lt 4096 (length line)) (Says Malformed) (kind_of_words (words_of line)))
