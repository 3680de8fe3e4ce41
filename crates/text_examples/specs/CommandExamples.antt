-- Examples of texts of commands.
use Prim.Native.String.{String}
use Rattle.std.specs.Prelude.{◌≡◌, ℕ, true, false, List, [], ◌∷◌, ◌++◌, codes, replicate, Option, None, Some}
use Rattle.spool_types.specs.declared.phase.Policy.{Policy}
use Rattle.spool_types.specs.declared.phase.Policy.TheVariants.{AbortJob, StopPrinter}
use Rattle.spool_types.specs.declared.event.Event.{Event}
use Rattle.spool_types.specs.declared.event.Event.TheVariants.{Info, SetAccept, SetStop, Send, Hold, Release, Abandon, Cancel, Purge, Clock}
use Rattle.command_lines.specs.Text.{commands_of}
use Rattle.command_lines.specs.declared.command.Command.{Command}
use Rattle.command_lines.specs.declared.command.Command.TheVariants.{Apply, Queue, Create, Close, OversizedSend, Jobs, Queues, Round, Drain, Checkpoint, Malformed}
use Rattle.text_examples.specs.Written.{text}

abbrev pub new_queue : String → String → String → Policy → ℕ → ℕ → Command
new_queue name uri target policy interval limit =
    Queue (record { name = text name; uri = text uri; target = text target; policy = policy; interval = interval; limit = limit })

-- A job, and its latest start, if any.
abbrev pub creation : String → String → String → ℕ → ℕ → String → Option ℕ → Command
creation queue user title copies priority options by =
    Create (record { queue = text queue; user = text user; title = text title; copies = copies; priority = priority; options = text options; by = by })

abbrev pub info : String → String → String → Event
info queue told place = Info (record { queue = text queue; info = text told; location = text place })

-- Each command once.
abbrev pub ScriptRows : Type 0
ScriptRows = commands_of (text "queue lab spoolfile:/out Text/PLAIN abort-job|info lab \"Front desk\" \"Room 4\"|reject lab|disable lab|accept lab|enable lab|create lab ann \"First page\" 1 50 \"\"|createby lab ann \"x\" 1 50 \"\" 2000|send 1 3|a|b|# a remark||close 1 page.txt|hold 1 100|release 1|abandon 1|cancel 1|purge 1|clock 7|round|drain 5|checkpoint|queues|jobs")
    ≡ new_queue "lab" "spoolfile:/out" "text/plain" AbortJob 30 5 ∷ Apply (info "lab" "Front desk" "Room 4")
    ∷ Apply (SetAccept (codes "lab") false) ∷ Apply (SetStop (codes "lab") true) ∷ Apply (SetAccept (codes "lab") true)
    ∷ Apply (SetStop (codes "lab") false) ∷ creation "lab" "ann" "First page" 1 50 "" None
    ∷ creation "lab" "ann" "x" 1 50 "" (Some 2000) ∷ Apply (Send 1 (97 ∷ 10 ∷ 98 ∷ [])) ∷ Close 1 (codes "page.txt")
    ∷ Apply (Hold 1 (Some 100)) ∷ Apply (Release 1) ∷ Apply (Abandon 1) ∷ Apply (Cancel 1)
    ∷ Apply (Purge 1) ∷ Apply (Clock 7) ∷ Round ∷ Drain 5 ∷ Checkpoint ∷ Queues ∷ Jobs ∷ []

-- Queues with interval and limit.
abbrev pub QueueRows : Type 0
QueueRows = commands_of (text "queue q s:/ a/b stop-printer 86400 65535|queue q s:/ a/b retry-job 86401|queue q s:/ a/b retry-job 0 65536|queue q s:/ a/b Retry-job|queue q s:/ a/b/c retry-job|queue q! s:/ a/b retry-job|")
    ≡ new_queue "q" "s:/" "a/b" StopPrinter 86400 65535 ∷ Malformed ∷ Malformed ∷ Malformed ∷ Malformed ∷ Malformed ∷ []

-- Quoted words.
abbrev pub QuotedRows : Type 0
QuotedRows = commands_of (text "close 1 \"\"|close 1 \"a\"\"b\"|close 1 \"a\\\"b\\\\c\\d\"|close 1 \"a|close 1 a\"b|close 1 a\\b|\"jobs\"|\"cancel\" \"1\"|")
    ≡ Close 1 [] ∷ Malformed ∷ Close 1 (codes "a\"b\\c\\d") ∷ Malformed ∷ Malformed ∷ Close 1 (codes "a\\b") ∷ Jobs
    ∷ Apply (Cancel 1) ∷ []

-- Blanks and remarks.
abbrev pub BlankRows : Type 0
BlankRows = commands_of (text " ~ jobs~ |  | # no remark|#" ++ (255 ∷ 0 ∷ []) ++ text "||jobs$|jobs x|Jobs|")
    ≡ Jobs ∷ Malformed ∷ Malformed ∷ Malformed ∷ Malformed ∷ Malformed ∷ []

-- Bytes that are no text.
abbrev pub ByteRows : Type 0
ByteRows = commands_of (text "close 1 a" ++ (0 ∷ []) ++ text "b|close 1 " ++ (255 ∷ []) ++ text "|close 1 " ++ (195 ∷ 169 ∷ []) ++ text "|close 1 \"a~b\"|send 1 2|" ++ (255 ∷ 0 ∷ []) ++ text "|")
    ≡ Malformed ∷ Malformed ∷ Close 1 (195 ∷ 169 ∷ []) ∷ Malformed ∷ Apply (Send 1 (255 ∷ 0 ∷ [])) ∷ []

-- Numbers.
abbrev pub NumberRows : Type 0
NumberRows = commands_of (text "cancel 0000000000001|cancel 00000000000001|cancel +1|cancel 0|cancel 2147483647|cancel 2147483648|cancel \"\"|")
    ≡ Apply (Cancel 1) ∷ Malformed ∷ Malformed ∷ Malformed ∷ Apply (Cancel 2147483647) ∷ Malformed ∷ Malformed ∷ []

-- Moments.
abbrev pub MomentRows : Type 0
MomentRows = commands_of (text "clock 0|clock 4000000000000|clock 4000000000001|clock|clock 1 2|clock -1|")
    ≡ Apply (Clock 0) ∷ Apply (Clock 4000000000000) ∷ Malformed ∷ Malformed ∷ Malformed ∷ Malformed ∷ []

-- Notes of a queue.
abbrev pub NoteRows : Type 0
NoteRows = commands_of (text "info lab \"Front desk\" \"\"|info lab \"\" \"Room 4\"|info lab a|")
    ≡ Apply (info "lab" "Front desk" "") ∷ Apply (info "lab" "" "Room 4") ∷ Malformed ∷ []

-- Queues that accept or reject.
abbrev pub AcceptRows : Type 0
AcceptRows = commands_of (text "accept lab|reject lab|accept|accept lab lab|")
    ≡ Apply (SetAccept (codes "lab") true) ∷ Apply (SetAccept (codes "lab") false) ∷ Malformed ∷ Malformed ∷ []

-- Queues that are stopped or resumed.
abbrev pub StopRows : Type 0
StopRows = commands_of (text "enable lab|disable lab|")
    ≡ Apply (SetStop (codes "lab") false) ∷ Apply (SetStop (codes "lab") true) ∷ []

-- Holds.
abbrev pub HoldRows : Type 0
HoldRows = commands_of (text "hold 1 100|hold 1 indefinite|hold 1 \"indefinite\"|hold 1|hold 1 Indefinite|hold 1 4000000000001|hold 0 indefinite|")
    ≡ Apply (Hold 1 (Some 100)) ∷ Apply (Hold 1 None) ∷ Apply (Hold 1 None) ∷ Malformed ∷ Malformed ∷ Malformed ∷ Malformed
    ∷ []

-- Releases.
abbrev pub ReleaseRows : Type 0
ReleaseRows = commands_of (text "release 1|release x|")
    ≡ Apply (Release 1) ∷ Malformed ∷ []

-- Purges.
abbrev pub PurgeRows : Type 0
PurgeRows = commands_of (text "purge 1|purge 2147483647|purge 2147483648|purge 0|purge|purge 1 2|purge x|Purge 1|purges 1|")
    ≡ Apply (Purge 1) ∷ Apply (Purge 2147483647) ∷ Malformed ∷ Malformed ∷ Malformed ∷ Malformed ∷ Malformed ∷ Malformed
    ∷ Malformed ∷ []

-- Listings take no words.
abbrev pub ListingRows : Type 0
ListingRows = commands_of (text "queues|queues 1|")
    ≡ Queues ∷ Malformed ∷ []

-- Drains have 1 to 1000 rounds.
abbrev pub DrainRows : Type 0
DrainRows = commands_of (text "round|round 1|drain|drain 0|drain 1|drain 1000|drain 1001|drain 1 1|")
    ≡ Round ∷ Malformed ∷ Malformed ∷ Malformed ∷ Drain 1 ∷ Drain 1000 ∷ Malformed ∷ Malformed ∷ []

-- A checkpoint takes no words.
abbrev pub CheckpointRows : Type 0
CheckpointRows = commands_of (text "checkpoint|checkpoint 1|\"checkpoint\"|checkpoints|")
    ≡ Checkpoint ∷ Malformed ∷ Checkpoint ∷ Malformed ∷ []

-- Limits of a Create.
abbrev pub CreationRows : Type 0
CreationRows = commands_of (text "create q u t 9999 100 o|create q u t 10000 1 o|create q u t 1 101 o|create q u t 0 1 o|create q \"\" t 1 1 o|")
    ≡ creation "q" "u" "t" 9999 100 "o" None ∷ Malformed ∷ Malformed ∷ Malformed ∷ Malformed ∷ []

-- Latest starts of jobs.
abbrev pub CreationByRows : Type 0
CreationByRows = commands_of (text "createby q u t 9999 100 o 0|createby q u t 1 1 o 4000000000000|createby q u t 1 1 o 4000000000001|createby q u t 1 1 o|createby q u t 1 1 o 1 2|createby q u t 1 1 o indefinite|createby q u t 1 1 o \"\"|createby q u t 10000 1 o 1|createby q u t 1 1 1|create q u t 1 1 o 1|createby|")
    ≡ creation "q" "u" "t" 9999 100 "o" (Some 0) ∷ creation "q" "u" "t" 1 1 "o" (Some 4000000000000)
    ∷ Malformed ∷ Malformed ∷ Malformed ∷ Malformed ∷ Malformed ∷ Malformed ∷ Malformed ∷ Malformed ∷ Malformed ∷ []

-- Sends without their end.
abbrev pub CutSendRows : Type 0
CutSendRows = commands_of (text "send 1 2|abc|jobs|send 1|send 1 5|ab")
    ≡ Malformed ∷ Jobs ∷ Malformed ∷ Malformed ∷ []

-- Empty sends.
abbrev pub EmptySendRows : Type 0
EmptySendRows = commands_of (text "send 1 0||send 1 0")
    ≡ Apply (Send 1 []) ∷ Malformed ∷ []

-- ## Long texts

-- A front, this number of bytes, and an end.
abbrev pub padded : String → ℕ → ℕ → String → List ℕ
padded front byte count end = text front ++ replicate count byte ++ text end

-- A location of 127 bytes, the most.
abbrev pub LongestNoteRows : Type 0
LongestNoteRows = commands_of (padded "info lab \"\" " 120 127 "|")
    ≡ Apply (Info (record { queue = codes "lab"; info = []; location = replicate 127 120 })) ∷ []

-- A location and an info that are too long.
abbrev pub LongNoteRows : Type 0
LongNoteRows = commands_of (padded "info lab \"\" " 120 128 "|" ++ padded "info lab " 120 128 " \"\"|") ≡ Malformed ∷ Malformed ∷ []

-- A line of 4,096 bytes, one of 4,097, and a long remark.
abbrev pub LongLineRows : Type 0
LongLineRows = commands_of (padded "jobs" 32 4092 "|jobs|" ++ padded "jobs" 32 4093 "|jobs|" ++ padded "#" 120 9000 "|jobs|")
    ≡ Jobs ∷ Jobs ∷ Malformed ∷ Jobs ∷ Jobs ∷ []

-- Too many bytes of a send, and another byte after them.
abbrev pub OversizedRows : Type 0
OversizedRows = commands_of (padded "send 1 70000|" 10 70000 "|jobs|") ≡ OversizedSend ∷ Jobs ∷ []

abbrev pub OversizedCutRows : Type 0
OversizedCutRows = commands_of (padded "send 1 70000|" 10 70000 "x|jobs|") ≡ Malformed ∷ Jobs ∷ []
