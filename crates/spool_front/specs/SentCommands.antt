-- The commands that are sent to a service.
use Rattle.std.specs.Prelude.{ℕ, Bool, ◌||◌, nat_lt, ◌==◌, List, [], ◌∷◌, ◌++◌, length, cond, codes, String, string_bytes, Option, None, Some, unwrap_or}
use Rattle.std.specs.Global.{Global}
use Rattle.std.specs.Fmt.{decimal}
use Rattle.command_lines.specs.Replies.{quoted}
use Rattle.front_proof.specs.ProofReplies.{user_of}
use Rattle.front_proof.specs.Standings.{Standing}
use Rattle.front_submission.specs.Service.{First, Second, part_of}
use Rattle.front_words.specs.declared.asked.NewQueue.{NewQueue}
use Rattle.service_client.specs.DocumentSends.{send_text}
use Rattle.spool_front.specs.declared.commands.Draft.{Draft}
use Rattle.spool_front.specs.declared.commands.Until.{Until}
use Rattle.spool_front.specs.declared.commands.Until.TheVariants.{Released, Reached}

-- A blank, followed by a text in quotes.
abbrev pub text_word : List ℕ → List ℕ
text_word text = codes " " ++ quoted text

abbrev pub moment_word : Option ℕ → List ℕ
moment_word None = []
moment_word (Some moment) = codes " " ++ decimal moment

abbrev pub create_word : Option ℕ → List ℕ
create_word None = codes "create"
create_word (Some moment) = codes "createby"

abbrev pub ranks : Draft → List ℕ
ranks d = codes " " ++ decimal d.copies ++ codes " " ++ decimal d.priority

-- The name of a user whom the service has identified, and who is no operator.
abbrev pub identified_user : Option Standing → Option (List ℕ)
identified_user None = None
identified_user (Some standing) = user_of standing

-- The owner of the job: the identified user, unless the user has named the owner.
abbrev pub job_user : Draft → Option Standing → List ℕ
job_user d standing = cond d.is_named (string_bytes d.user) (unwrap_or (identified_user standing) (string_bytes d.user))

-- The queue, the owner and the title.
abbrev pub names : Draft → List ℕ → List ℕ
names d owner = text_word (string_bytes d.queue) ++ text_word owner ++ text_word (string_bytes d.title)

abbrev pub create_line : Draft → List ℕ → List ℕ
create_line d owner = create_word d.by ++ names d owner ++ ranks d ++ text_word (string_bytes d.options) ++ moment_word d.by ++ codes "\n"

abbrev pub media_word : Option (String Global) → List ℕ
media_word None = []
media_word (Some media) = text_word (string_bytes media)

abbrev pub close_line : ℕ → Draft → List ℕ
close_line job d = codes "close " ++ decimal job ++ text_word (string_bytes d.name) ++ media_word d.media ++ codes "\n"

-- The job is closed only if its document has this size.
abbrev pub closeat_line : ℕ → ℕ → Draft → List ℕ
closeat_line job size d =
    codes "closeat " ++ decimal job ++ codes " " ++ decimal size ++ text_word (string_bytes d.name) ++ media_word d.media ++ codes "\n"

-- A long piece is sent by two commands.
abbrev pub second_text : ℕ → List ℕ → List (List ℕ)
second_text job bytes = cond (length bytes == 0) [] (send_text job bytes ∷ [])

-- After the last piece the job is closed, if it then has this size.
abbrev pub close_text : Draft → ℕ → Option ℕ → List (List ℕ)
close_text d job None = []
close_text d job (Some size) = closeat_line job size d ∷ []

-- The commands that are sent together for a piece.
abbrev pub piece_texts : Draft → ℕ → List ℕ → Option ℕ → List (List ℕ)
piece_texts d job piece end = send_text job (part_of First piece) ∷ (second_text job (part_of Second piece) ++ close_text d job end)

abbrev pub find_line : List ℕ → List ℕ
find_line token = codes "find " ++ token ++ codes "\n"

abbrev pub hold_line : ℕ → Until → List ℕ
hold_line job Released = codes "hold " ++ decimal job ++ codes " indefinite\n"
hold_line job (Reached moment) = codes "hold " ++ decimal job ++ codes " " ++ decimal moment ++ codes "\n"

-- The jobs from a number on, in the largest pieces that a service sends.
abbrev pub list_line : ℕ → List ℕ
list_line from = codes "list from " ++ decimal from ++ codes " most 100\n"

-- A word, followed by a job number.
abbrev pub job_line : List ℕ → ℕ → List ℕ
job_line word job = word ++ codes " " ++ decimal job ++ codes "\n"

-- A word, followed by the name of a queue.
abbrev pub name_line : List ℕ → List ℕ → List ℕ
name_line word name = word ++ text_word name ++ codes "\n"

abbrev pub info_line : List ℕ → List ℕ → List ℕ → List ℕ
info_line name info location = codes "info" ++ text_word name ++ text_word info ++ text_word location ++ codes "\n"

abbrev pub queue_line : List ℕ → NewQueue → List ℕ
queue_line name q =
    codes "queue" ++ text_word name ++ text_word q.uri.now ++ text_word q.media.now
    ++ (codes " " ++ q.policy.now ++ codes " " ++ decimal q.interval ++ codes " " ++ decimal q.limit ++ codes "\n")

-- A control character, which no text may contain.
abbrev pub is_control : ℕ → Bool
is_control b = nat_lt b 32 || (b == 127)
