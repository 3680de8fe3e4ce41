-- One job with all its fields, each a line of its name and its value.
use Rattle.std.specs.Prelude.{ℕ, Bool, ◌&&◌, cond, nat_le, ◌==◌, List, [], ◌∷◌, codes, Option, None, Some}
use Rattle.std.specs.Option.{option_map, option_and_then}
use Rattle.line_words.specs.Blanks.{after_blanks, first_word, after_word}
use Rattle.command_lines.specs.CommandGrammar.{job_in}
use Rattle.spool_types.specs.Values.{is_queue_name, is_title, is_options, text_in, media_in}
use Rattle.front_texts.specs.ShownUsers.{is_shown_user}
use Rattle.front_texts.specs.ReplyFields.{is_word, is_empty, is_end, quoted_text, after_quoted, count_in, moment_in, job_state_of, reason_in}
use Rattle.front_texts.specs.declared.states.JobState.{JobState}
use Rattle.front_texts.specs.declared.job_shown.JobShown.{JobShown}
use Rattle.front_texts.specs.declared.job_shown.JobAsked.{JobAsked}
use Rattle.front_texts.specs.declared.job_shown.JobStatus.{JobStatus}
use Rattle.front_texts.specs.declared.job_shown.StageShown.{StageShown}
use Rattle.front_texts.specs.declared.job_shown.JobNames.{JobNames}
use Rattle.front_texts.specs.declared.job_shown.JobWishes.{JobWishes}
use Rattle.front_texts.specs.declared.job_shown.JobCounts.{JobCounts}
use Rattle.front_texts.specs.declared.job_shown.JobMarks.{JobMarks}
use Rattle.front_texts.specs.declared.job_shown.StateAndReason.{StateAndReason}
use Rattle.front_texts.specs.declared.job_shown.JobMoments.{JobMoments}
use Rattle.front_texts.specs.declared.job_times.JobTimes.{JobTimes}
use Rattle.front_texts.specs.declared.job_times.TimeShown.{TimeShown}
use Rattle.front_texts.specs.declared.job_times.TimeShown.TheVariants.{Unknown, At}

-- ## Lines

abbrev pub is_lf : ℕ → Bool
is_lf b = b == 10

-- The text before the first line feed.
abbrev pub line_here : List ℕ → List ℕ
line_here [] = []
line_here (b ∷ bs) = cond (is_lf b) [] (b ∷ line_here bs)

-- The text after it.
abbrev pub behind_line : List ℕ → List ℕ
behind_line [] = []
behind_line (b ∷ bs) = cond (is_lf b) bs (behind_line bs)

-- The first line has this name.
abbrev pub is_named : List ℕ → List ℕ → Bool
is_named text name = is_word (first_word (line_here text)) name

-- The value of the first line, if it has this name.
unfoldable pub field : List ℕ → List ℕ → Option (List ℕ)
field text name = cond (is_named text name) (Some (after_blanks (after_word (line_here text)))) None

-- The text after it, or the same text if it does not have this name.
unfoldable pub after_field : List ℕ → List ℕ → List ℕ
after_field text name = cond (is_named text name) (behind_line text) text

-- ## Values

-- A text in quotes that ends the line.
abbrev pub whole_text : (List ℕ → Bool) → List ℕ → Option (List ℕ)
whole_text allowed line = cond (is_end (after_quoted line)) (option_and_then (text_in allowed) (quoted_text line)) None

abbrev pub within : ℕ → ℕ → ℕ → Option ℕ
within least most n = cond (nat_le least n && nat_le n most) (Some n) None

abbrev pub copies_in : List ℕ → Option ℕ
copies_in word = option_and_then (within 1 9999) (count_in word)

abbrev pub priority_in : List ℕ → Option ℕ
priority_in word = option_and_then (within 1 100) (count_in word)

-- ## The fields that were given at the start

abbrev pub names_of : Option ℕ → Option (List ℕ) → Option (List ℕ) → Option JobNames
names_of (Some number) (Some queue) (Some user) = Some (record { number = number; queue = queue; user = user })
names_of number queue user = None

abbrev pub names_in : Option (List ℕ) → Option (List ℕ) → Option (List ℕ) → Option JobNames
names_in (Some number) (Some queue) (Some user) = names_of (job_in number) (text_in is_queue_name queue) (whole_text is_shown_user user)
names_in number queue user = None

abbrev pub wishes_of : Option (List ℕ) → Option (List ℕ) → Option ℕ → Option ℕ → Option JobWishes
wishes_of (Some title) (Some options) (Some copies) (Some priority) = Some (record { title = title; options = options; copies = copies; priority = priority })
wishes_of title options copies priority = None

abbrev pub wishes_in : Option (List ℕ) → Option (List ℕ) → Option (List ℕ) → Option (List ℕ) → Option JobWishes
wishes_in (Some title) (Some options) (Some copies) (Some priority) =
    wishes_of (whole_text is_title title) (whole_text is_options options) (copies_in copies) (priority_in priority)
wishes_in title options copies priority = None

abbrev pub asked_of : Option JobNames → Option JobWishes → Option JobAsked
asked_of (Some names) (Some wishes) = Some (record {
  number = names.number;
  queue = names.queue;
  user = names.user;
  title = wishes.title;
  options = wishes.options;
  copies = wishes.copies;
  priority = wishes.priority;
})
asked_of names wishes = None

-- The text after the lines up to each of these.
abbrev pub after_names : List ℕ → List ℕ
after_names text = after_field (after_field (after_field text (codes "job")) (codes "queue")) (codes "user")

abbrev pub after_wishes : List ℕ → List ℕ
after_wishes text = after_field (after_field (after_field (after_field text (codes "title")) (codes "options")) (codes "copies")) (codes "priority")

abbrev pub names_at : List ℕ → Option JobNames
names_at text =
    let queue = after_field text (codes "job") in
    let user = after_field queue (codes "queue") in
    names_in (field text (codes "job")) (field queue (codes "queue")) (field user (codes "user"))

abbrev pub wishes_at : List ℕ → Option JobWishes
wishes_at text =
    let options = after_field text (codes "title") in
    let copies = after_field options (codes "options") in
    let priority = after_field copies (codes "copies") in
    wishes_in (field text (codes "title")) (field options (codes "options")) (field copies (codes "copies")) (field priority (codes "priority"))

abbrev pub asked_in : List ℕ → Option JobAsked
asked_in text = asked_of (names_at text) (wishes_at (after_names text))

abbrev pub after_asked : List ℕ → List ℕ
after_asked text = after_wishes (after_names text)

-- ## The fields that change

abbrev pub counts_of : Option ℕ → Option ℕ → Option ℕ → Option JobCounts
counts_of (Some size) (Some pages) (Some attempts) = Some (record { size = size; pages = pages; attempts = attempts })
counts_of size pages attempts = None

abbrev pub counts_in : Option (List ℕ) → Option (List ℕ) → Option (List ℕ) → Option JobCounts
counts_in size pages attempts = counts_of (option_and_then count_in size) (option_and_then count_in pages) (option_and_then count_in attempts)

-- No media type if its line is missing.
abbrev pub media_of : Option (List ℕ) → Option (Option (List ℕ))
media_of None = Some None
media_of (Some word) = option_map (λ media. Some media) (media_in word)

-- No moment if its line is missing.
abbrev pub moment_of : Option (List ℕ) → Option (Option ℕ)
moment_of None = Some None
moment_of (Some word) = option_map (λ moment. Some moment) (moment_in word)

abbrev pub marks_of : Option (Option (List ℕ)) → Option (Option ℕ) → Option JobMarks
marks_of (Some media) (Some by) = Some (record { media = media; by = by })
marks_of media by = None

abbrev pub marks_in : Option (List ℕ) → Option (List ℕ) → Option JobMarks
marks_in media by = marks_of (media_of media) (moment_of by)

abbrev pub state_and_reason_of : Option JobState → Option (Option (List ℕ)) → Option StateAndReason
state_and_reason_of (Some state) (Some reason) = Some (record { state = state; reason = reason })
state_and_reason_of state reason = None

abbrev pub state_and_reason_in : Option (List ℕ) → Option (List ℕ) → Option StateAndReason
state_and_reason_in (Some state) (Some reason) = state_and_reason_of (job_state_of state) (reason_in reason)
state_and_reason_in state reason = None

abbrev pub stage_in : Option ℕ → Option ℕ → Option ℕ → Option (Option StageShown)
stage_in (Some stage) (Some stages) (Some attempt) = Some (Some (record { stage = stage; stages = stages; attempt = attempt }))
stage_in stage stages attempt = None

-- S of N attempt A
abbrev pub stage_words : List ℕ → Option (Option StageShown)
stage_words line =
    let of = after_word line in
    let stages = after_word of in
    let word = after_word stages in
    let attempt = after_word word in
    cond (is_word (first_word of) (codes "of") && (is_word (first_word word) (codes "attempt") && is_end (after_word attempt)))
    (stage_in (count_in (first_word line)) (count_in (first_word stages)) (count_in (first_word attempt)))
    None

-- No stage if its line is missing.
abbrev pub stage_of : Option (List ℕ) → Option (Option StageShown)
stage_of None = Some None
stage_of (Some line) = stage_words line

abbrev pub moments_of : Option (Option ℕ) → Option (Option ℕ) → Option (Option StageShown) → Option JobMoments
moments_of (Some until) (Some before) (Some stage) = Some (record { hold_until = until; not_before = before; stage = stage })
moments_of until before stage = None

-- The moments and the stage.
abbrev pub moments_in : List ℕ → Option JobMoments
moments_in text =
    let before = after_field text (codes "hold-until") in
    let stage = after_field before (codes "not-before") in
    moments_of (moment_of (field text (codes "hold-until"))) (moment_of (field before (codes "not-before"))) (stage_of (field stage (codes "stage")))

-- The text after these lines.
abbrev pub after_moments : List ℕ → List ℕ
after_moments text = after_field (after_field (after_field text (codes "hold-until")) (codes "not-before")) (codes "stage")

abbrev pub job_status_of : Option JobCounts → Option JobMarks → Option StateAndReason → Option JobMoments → Option JobStatus
job_status_of (Some counts) (Some marks) (Some state_and_reason) (Some moments) = Some (record {
  size = counts.size;
  pages = counts.pages;
  attempts = counts.attempts;
  media = marks.media;
  by = marks.by;
  state = state_and_reason.state;
  reason = state_and_reason.reason;
  hold_until = moments.hold_until;
  not_before = moments.not_before;
  stage = moments.stage;
})
job_status_of counts marks state_and_reason moments = None

abbrev pub job_status_in : List ℕ → Option JobStatus
job_status_in text =
    let pages = after_field text (codes "size") in
    let attempts = after_field pages (codes "pages") in
    let media = after_field attempts (codes "attempts") in
    let by = after_field media (codes "type") in
    let state = after_field by (codes "by") in
    let reason = after_field state (codes "state") in
    job_status_of
    (counts_in (field text (codes "size")) (field pages (codes "pages")) (field attempts (codes "attempts")))
    (marks_in (field media (codes "type")) (field by (codes "by")))
    (state_and_reason_in (field state (codes "state")) (field reason (codes "reason")))
    (moments_in (after_field reason (codes "reason")))

-- The text after the lines of the fields that change.
abbrev pub after_counts : List ℕ → List ℕ
after_counts text = after_field (after_field (after_field text (codes "size")) (codes "pages")) (codes "attempts")

abbrev pub after_status : List ℕ → List ℕ
after_status text =
    after_moments (after_field (after_field (after_field (after_field (after_counts text) (codes "type")) (codes "by")) (codes "state")) (codes "reason"))

-- ## Its times

-- A moment, or the word `unknown`.
abbrev pub time_in : List ℕ → Option TimeShown
time_in word = cond (is_word word (codes "unknown")) (Some Unknown) (option_map (λ moment. At moment) (moment_in word))

-- No time if its line is missing.
abbrev pub time_of : Option (List ℕ) → Option (Option TimeShown)
time_of None = Some None
time_of (Some word) = option_map (λ time. Some time) (time_in word)

abbrev pub times_of : Option (Option TimeShown) → Option (Option TimeShown) → Option (Option TimeShown) → Option (Option TimeShown) → Option JobTimes
times_of (Some created) (Some closed) (Some started) (Some ended) = Some (record { created = created; closed = closed; started = started; ended = ended })
times_of created closed started ended = None

-- The times, up to the end of the text.
abbrev pub times_in : List ℕ → Option JobTimes
times_in text =
    let closed = after_field text (codes "created") in
    let started = after_field closed (codes "closed") in
    let ended = after_field started (codes "started") in
    cond (is_empty (after_field ended (codes "ended")))
    (times_of (time_of (field text (codes "created"))) (time_of (field closed (codes "closed"))) (time_of (field started (codes "started"))) (time_of (field ended (codes "ended"))))
    None

-- ## The job

abbrev pub shown_of : Option JobAsked → Option JobStatus → Option JobTimes → Option JobShown
shown_of (Some asked) (Some job_status) (Some times) = Some (record { asked = asked; job_status = job_status; times = times })
shown_of asked job_status times = None

abbrev pub shown_job : List ℕ → Option JobShown
shown_job text = shown_of (asked_in text) (job_status_in (after_asked text)) (times_in (after_status (after_asked text)))
