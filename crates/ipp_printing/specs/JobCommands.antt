-- The commands about the jobs of a submission.
use Rattle.std.specs.Prelude.{ℕ, ◌+◌, min, Bool, true, false, List, [], ◌++◌, length, ◌==◌, cond, codes, slice_get, string_bytes, Option, None, Some}
use Rattle.std.specs.Fmt.{decimal}
use Rattle.std.specs.Option.{option_map}
use Rattle.command_lines.specs.Replies.{quoted}
use Rattle.front_submission.specs.declared.reply.Reply.{Reply}
use Rattle.front_submission.specs.declared.step.Request.{Request}
use Rattle.front_submission.specs.declared.step.Request.TheVariants.{Create, Find, Read, Send, Show, Hold, Close, Cancel, Nothing}
use Rattle.ipp_options.specs.declared.hold.Hold as holds
use Rattle.ipp_options.specs.declared.hold.Hold.TheVariants.{Free, Indefinite, Until}
use Rattle.ipp_submission.specs.JobParts.{next_request}
use Rattle.service_client.specs.DocumentSends.{send_text}
use Rattle.ipp_printing.specs.declared.printing.DocumentName.{DocumentName}
use Rattle.ipp_printing.specs.declared.printing.PrintingJob.{PrintingJob}

-- A word, followed by a job number.
abbrev pub job_line : List ℕ → ℕ → List ℕ
job_line word job = word ++ codes " " ++ decimal job ++ codes "\n"

-- `hold`, or `release` for no hold.
abbrev pub hold_line : ℕ → holds.Hold → List ℕ
hold_line job Free = job_line (codes "release") job
hold_line job Indefinite = codes "hold " ++ decimal job ++ codes " indefinite\n"
hold_line job (Until moment) = codes "hold " ++ decimal job ++ codes " " ++ decimal moment ++ codes "\n"

abbrev pub blank_after : List ℕ → List ℕ
blank_after options = cond (length options == 0) [] (codes " ")

-- The options, and the token of a part, by which its job is found again.
abbrev pub option_text : PrintingJob → ℕ → List ℕ
option_text j part =
    (((string_bytes j.options ++ blank_after (string_bytes j.options)) ++ codes "submission=") ++ string_bytes j.token) ++ (codes "-" ++ decimal part)

abbrev pub create_line : PrintingJob → ℕ → List ℕ
create_line j part = j.create.items ++ quoted (option_text j part) ++ codes "\n"

abbrev pub find_line : PrintingJob → ℕ → List ℕ
find_line j part = codes "find " ++ string_bytes j.token ++ codes "-" ++ decimal part ++ codes "\n"

-- A search asks for the number of the job, and then for its state.
abbrev pub search_line : Option ℕ → PrintingJob → ℕ → List ℕ
search_line (Some job) j part = job_line (codes "job") job
search_line None j part = find_line j part

abbrev pub document_name : Option DocumentName → List ℕ
document_name None = codes "document"
document_name (Some document) = string_bytes document.name

abbrev pub document_media : Option DocumentName → Option (List ℕ)
document_media None = None
document_media (Some document) = option_map string_bytes document.media

-- The type of a document, unless it is to be detected. A queue of raw bytes detects none.
abbrev pub media_of : PrintingJob → ℕ → Option (List ℕ)
media_of j part = cond j.is_raw (Some (codes "application/octet-stream")) (document_media (slice_get j.documents.items part))

abbrev pub media_word : Option (List ℕ) → List ℕ
media_word None = []
media_word (Some media) = codes " " ++ media

-- The name of a document, its type, and the end of the line.
abbrev pub document_words : PrintingJob → ℕ → List ℕ
document_words j part = quoted (document_name (slice_get j.documents.items part)) ++ media_word (media_of j part) ++ codes "\n"

abbrev pub close_line : PrintingJob → ℕ → ℕ → List ℕ
close_line j part job = (codes "close " ++ decimal job ++ codes " ") ++ document_words j part

-- The size of a document after a piece, if it is a number of 64 bits. No document has more bytes.
abbrev pub size_after : ℕ → ℕ → ℕ
size_after size piece = min (size + piece) 18446744073709551615

abbrev pub closeat_words : ℕ → ℕ → List ℕ
closeat_words job size = codes "closeat " ++ decimal job ++ codes " " ++ decimal size ++ codes " "

-- `close` on the condition that the document has this size.
abbrev pub closeat_line : PrintingJob → ℕ → ℕ → ℕ → List ℕ
closeat_line j part job size = closeat_words job size ++ document_words j part

-- The last piece, or its close once the reply to the piece has come.
abbrev pub last_line : Option Reply → PrintingJob → ℕ → ℕ → ℕ → List ℕ
last_line None j part job size = send_text job j.piece.items
last_line (Some reply) j part job size = closeat_line j part job size

-- The close that is sent together with the last piece.
abbrev pub follower_line : Option Reply → PrintingJob → ℕ → ℕ → ℕ → Option (List ℕ)
follower_line None j part job size = Some (closeat_line j part job size)
follower_line (Some reply) j part job size = None

-- The command for a request about a part.
abbrev pub command_for : PrintingJob → ℕ → Request → Option (List ℕ)
command_for j part Create = Some (create_line j part)
command_for j part Find = Some (search_line j.found j part)
command_for j part (Read size) = None
command_for j part (Send job size piece false) = Some (send_text job j.piece.items)
command_for j part (Send job size piece true) = Some (last_line j.sent j part job (size_after size piece))
command_for j part (Show job) = Some (job_line (codes "job") job)
command_for j part (Hold job) = Some (hold_line job j.hold)
command_for j part (Close job) = Some (close_line j part job)
command_for j part (Cancel job) = Some (job_line (codes "cancel") job)
command_for j part Nothing = None

-- The command for the next request of the submission.
abbrev pub command_of : PrintingJob → Option (List ℕ)
command_of j = command_for j j.submission.at (next_request j.submission)

-- The command that may be sent together with that command, before its reply.
abbrev pub follower_for : PrintingJob → ℕ → Request → Option (List ℕ)
follower_for j part (Send job size piece true) = follower_line j.sent j part job (size_after size piece)
follower_for j part request = None

abbrev pub follower_of : PrintingJob → Option (List ℕ)
follower_of j = follower_for j j.submission.at (next_request j.submission)
