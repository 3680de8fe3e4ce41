-- Examples of the words of the service and of its replies.
use Rattle.std.specs.Prelude.{◌≡◌, true, false, [], ◌∷◌, map, codes, None, Some}
use Rattle.std.specs.FinMap as finite
use Rattle.client_standing.specs.ClientStanding.{ClientStanding}
use Rattle.client_standing.specs.declared.caller.Caller.TheVariants.{Unproved, User}
use Rattle.client_standing.specs.declared.rules.Trust.TheVariants as trusts
use Rattle.event_records.specs.declared.seen.JobTimes.{JobTimes}
use Rattle.spool_types.specs.State.{State, Job, nothing}
use Rattle.spool_types.specs.declared.phase.Hold.TheVariants.{Free}
use Rattle.spool_types.specs.declared.phase.Phase.TheVariants.{Incoming, Canceled}
use Rattle.queue_sayings.specs.QueueSayings.{shown_reasons}
use Rattle.service_texts.specs.LeftJobs.{incoming_text}
use Rattle.service_texts.specs.Listings.{piece_line, piece_of}
use Rattle.service_texts.specs.MeasuredTexts.{now_text, room_text}
use Rattle.service_texts.specs.QueueShown.{queue_fields}
use Rattle.service_texts.specs.Selections.{all_jobs}
use Rattle.service_texts.specs.ServiceWords.{own_word}
use Rattle.service_texts.specs.Shown.{has_other_size, one_shown, shown_line}
use Rattle.service_texts.specs.SubmissionTokens.{token_of}
use Rattle.service_texts.specs.declared.own_words.OwnWord.TheVariants as words
use Rattle.wait_causes.specs.WaitCauses.{why_line}
use Rattle.wait_causes.specs.declared.cause.Cause.TheVariants as causes
use Rattle.text_examples.specs.ReplyExamples.{busy, lab}
use Rattle.text_examples.specs.Written.{text}

-- ## Words

abbrev pub LoneRows : Type 0
LoneRows = map own_word (text "watch" ∷ text " shutdown " ∷ text "i-am" ∷ text "made" ∷ text "incoming" ∷ text "room" ∷ text "now" ∷ text "printers" ∷ text "list" ∷ text "room 1" ∷ text "made 1" ∷ text "jobs" ∷ text "find" ∷ [])
    ≡ Some words.Watch ∷ Some words.Shutdown ∷ Some words.Challenge ∷ Some words.Prove ∷ Some words.Incoming ∷ Some words.Room ∷ Some words.Now ∷ Some words.Printers ∷ Some (words.List all_jobs) ∷ None ∷ None ∷ None ∷ None ∷ []

abbrev pub NumberRows : Type 0
NumberRows = map own_word (text "job 7" ∷ text "wait 7" ∷ text "end 7" ∷ text "stop 7" ∷ text "stop 7 8" ∷ text "why 7" ∷ text "why" ∷ text "watch 17" ∷ text "watch 9999999999999" ∷ text "watch 10000000000000" ∷ [])
    ≡ Some (words.Job 7) ∷ Some (words.Wait 7) ∷ Some (words.End 7) ∷ Some (words.Stop 7) ∷ None ∷ Some (words.Why 7) ∷ None ∷ Some (words.WatchFrom 17) ∷ Some (words.WatchFrom 9999999999999) ∷ None ∷ []

-- A queue of one word is no command, and neither is a close of three.
abbrev pub NameRows : Type 0
NameRows = map own_word (text "queue lab" ∷ text "queue \"lab\"" ∷ text "queue lab s:/ a/b abort-job" ∷ text "queue l!" ∷ text "close 7 \"a b\" Text/PLAIN" ∷ text "close 7 a" ∷ text "close 7 a b" ∷ [])
    ≡ Some (words.Queue (codes "lab")) ∷ Some (words.Queue (codes "lab")) ∷ None ∷ None ∷ Some (words.CloseAs 7 (codes "a b") (codes "text/plain")) ∷ None ∷ None ∷ []

-- The size has 1 to 13 digits, and the type may be missing.
abbrev pub CloseAtRows : Type 0
CloseAtRows = map own_word (text "closeat 7 3 \"a b\"" ∷ text "closeat 7 0 a Text/PLAIN" ∷ text "closeat 7 9999999999999 a" ∷ text "closeat 7 10000000000000 a" ∷ text "closeat 7 -1 a" ∷ text "closeat 0 3 a" ∷ text "closeat 7 3" ∷ text "closeat 7 3 a b" ∷ text "closeat 7 3 a a/b c" ∷ text "closeat" ∷ [])
    ≡ Some (words.CloseAt 7 3 (codes "a b") None) ∷ Some (words.CloseAt 7 0 (codes "a") (Some (codes "text/plain"))) ∷ Some (words.CloseAt 7 9999999999999 (codes "a") None) ∷ None ∷ None ∷ None ∷ None ∷ None ∷ None ∷ None ∷ []

-- Each key at most once, in any order.
abbrev pub ListRows : Type 0
ListRows = map own_word (text "list most 100 from 7" ∷ text "list queue lab state 4 user \"ann b\"" ∷ text "list most 101" ∷ text "list most 0" ∷ text "list state 2" ∷ text "list from 7 from 8" ∷ text "list queue" ∷ text "list all" ∷ [])
    ≡ Some (words.List (record all_jobs { from = Some 7; most = Some 100 }))
    ∷ Some (words.List (record all_jobs { queue = Some (codes "lab"); state = Some 4; user = Some (codes "ann b") }))
    ∷ None ∷ None ∷ None ∷ None ∷ None ∷ None ∷ []

abbrev pub FindRows : Type 0
FindRows = map own_word (text "find a1-!" ∷ text "find a,b" ∷ text "find a'b" ∷ text "find a b" ∷ [])
    ≡ Some (words.Find (codes "a1-!")) ∷ None ∷ None ∷ None ∷ []

-- The last word of the options is the token.
abbrev pub TokenRows : Type 0
TokenRows = map token_of (text "sides=one-sided submission=a1" ∷ text "submission=a1" ∷ text "submission=a1 copies=2" ∷ text "submission=" ∷ text "title=submission=a1" ∷ text "submission=\"a1\"" ∷ [])
    ≡ Some (codes "a1") ∷ Some (codes "a1") ∷ None ∷ None ∷ None ∷ None ∷ []

-- ## What is shown

abbrev pub operator : ClientStanding
operator = record { rules = record { trust = trusts.All; show_all = false }; caller = Unproved; made = [] }

abbrev pub stranger : ClientStanding
stranger = record { rules = record { trust = trusts.None; show_all = false }; caller = User (codes "bob"); made = [] }

abbrev pub times : JobTimes
times = record { created = Some 1000; closed = None; started = Some 1002; ended = Some 1009 }

-- A job that prints has not ended. Its close was not seen.
abbrev pub JobRows : Type 0
JobRows = one_shown 0 operator times (Some busy)
    ≡ text "job 7|queue lab|user \"ann\"|title \"P 1\"|options \"media=A4\"|copies 2|priority 50|size 3|pages 0|attempts 1|type text/plain|state 5|reason job-printing|stage 1 of 1 attempt 1|created 1000|closed unknown|started 1002|ok 1|"

-- A job that was canceled before it was closed was not started either. Its title and its user are hidden from others.
abbrev pub canceled : Job
canceled = record busy { media = None; attempts = 0; phase = Canceled }

abbrev pub HiddenRows : Type 0
HiddenRows = one_shown 0 stranger times (Some canceled)
    ≡ text "job 7|queue lab|user \"\"|title \"\"|options \"\"|copies 2|priority 50|size 3|pages 0|attempts 0|state 7|reason canceled|created 1000|ended 1009|ok 1|"

abbrev pub LineRows : Type 0
LineRows = shown_line operator 0 busy ∷ shown_line stranger 0 busy ∷ shown_line (record stranger { made = 7 ∷ [] }) 0 busy ∷ []
    ≡ text "job 7 lab 5 job-printing \"ann\" 3 0 \"P 1\"|" ∷ text "job 7 lab 5 job-printing \"\" 3 0 \"\"|" ∷ text "job 7 lab 5 job-printing \"ann\" 3 0 \"P 1\"|" ∷ []

-- The queue is stopped while a job prints.
abbrev pub QueueRows : Type 0
QueueRows = queue_fields operator (record { waiting = 3; held = 1 }) (Some 7) (Some 1002) (record lab { stopped = true; attributes = record { name = codes "marker-levels"; value = codes "80" } ∷ [] })
    ≡ text "queue lab|uri spoolfile:/out|type application/x-prn|policy abort-job|interval 30|limit 5|info \"\"|location \"\"|accepting yes|state 4|stopped yes|stopping yes|reasons none|message \"\"|attribute marker-levels \"80\"|waiting 3|held 1|printing 7|changed 1002|ok 1|"

abbrev pub OthersQueueRows : Type 0
OthersQueueRows = queue_fields stranger (record { waiting = 1001; held = 0 }) None None lab
    ≡ text "queue lab|type application/x-prn|policy abort-job|interval 30|limit 5|info \"\"|location \"\"|accepting yes|state 3|stopped no|stopping no|reasons none|message \"\"|waiting 1001|held 0 of 1000|changed unknown|ok 1|"

-- The effects of an attempt that has ended, and those of one that runs.
abbrev pub SaidRows : Type 0
SaidRows = map (λ spoken. shown_reasons spoken (codes "marker-supply-low-warning" ∷ codes "media-empty-error" ∷ codes "toner-empty-error" ∷ [])) (false ∷ true ∷ [])
    ≡ (codes "marker-supply-low-warning" ∷ codes "media-empty-error" ∷ []) ∷ (codes "marker-supply-low-warning" ∷ codes "media-empty-error" ∷ codes "toner-empty-error" ∷ []) ∷ []

-- ## Why a job waits

abbrev pub WhyRows : Type 0
WhyRows = why_line (causes.HeldUntil 17) 0 ∷ why_line (causes.Taken 7) 2 ∷ why_line causes.Next 0 ∷ []
    ≡ text "ok why held-until 17|" ∷ text "ok why taken 7 ahead 2|" ∷ text "ok why next|" ∷ []

-- ## Pieces

abbrev pub later : Job
later = record busy { id = 9 }

-- A piece that is full, one that has examined enough, and the last one.
abbrev pub PieceRows : Type 0
PieceRows = piece_of (λ r. true) 1 1000 (busy ∷ later ∷ []) ∷ piece_of (λ r. false) 1 1 (busy ∷ later ∷ []) ∷ piece_of (λ r. true) 2 1000 (busy ∷ later ∷ []) ∷ []
    ≡ record { jobs = busy ∷ []; next = Some 9 } ∷ record { jobs = []; next = Some 9 } ∷ record { jobs = busy ∷ later ∷ []; next = None } ∷ []

abbrev pub PieceLineRows : Type 0
PieceLineRows = piece_line 50 (Some 51) ∷ piece_line 0 None ∷ [] ≡ text "ok 50 more 51|" ∷ text "ok 0|" ∷ []

-- ## Jobs that were left

abbrev pub arriving : State
arriving = record nothing { jobs = finite.insert finite.empty 7 (record busy { media = None; phase = Incoming Free }) }

abbrev pub LeftRows : Type 0
LeftRows = incoming_text 61999 arriving (record { job = 5; since = 0 } ∷ record { job = 7; since = 1000 } ∷ []) ≡ text "incoming 7 60|ok 1|"

-- ## The size of a document

abbrev pub printing : State
printing = record nothing { jobs = finite.insert finite.empty 7 busy }

-- A job that is incoming with 3 bytes, one that prints, and none.
abbrev pub SizeRows : Type 0
SizeRows = has_other_size arriving 7 3 ∷ has_other_size arriving 7 2 ∷ has_other_size arriving 7 4 ∷ has_other_size printing 7 4 ∷ has_other_size nothing 7 4 ∷ []
    ≡ false ∷ true ∷ true ∷ false ∷ false ∷ []

-- ## What is measured

abbrev pub MeasuredRows : Type 0
MeasuredRows = (room_text 0 ≡ text "ok room 0\n") × (room_text 16777216 ≡ text "ok room 16777216\n") × (now_text 1795000000 ≡ text "ok now 1795000000\n")
