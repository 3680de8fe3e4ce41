-- The requests to the service itself on a line.
use Rattle.std.specs.Prelude.{ℕ, Bool, true, false, ◌||◌, cond, List, [], ◌∷◌, codes, Option, None, Some}
use Rattle.std.specs.Option.{option_map, option_and_then}
use Rattle.line_words.specs.Blanks.{first_word, after_word}
use Rattle.spool_types.specs.Values.{is_file_name, media_in, text_in}
use Rattle.command_lines.specs.CommandNumbers.{number_of}
use Rattle.command_lines.specs.CommandWords.{words_of}
use Rattle.command_lines.specs.CommandGrammar.{is_word, job_in, queue_in}
use Rattle.service_texts.specs.Selections.{all_jobs, selection_in}
use Rattle.service_texts.specs.SubmissionTokens.{is_token}
use Rattle.service_texts.specs.declared.own_words.OwnWord.{OwnWord}
use Rattle.service_texts.specs.declared.own_words.OwnWord.TheVariants.{Job, Wait, End, Stop, Watch, WatchFrom, Shutdown, Challenge, Prove, Queue, List as Listing, Find, Incoming, Room, Now, CloseAs, CloseAt, Printers, Why}

abbrev pub is_no_word : List ℕ → Bool
is_no_word [] = true
is_no_word (b ∷ bs) = false

-- The line has blanks only.
abbrev pub is_blank_line : List ℕ → Bool
is_blank_line line = is_no_word (first_word line)

-- ## A word that nothing follows

abbrev pub alone : List ℕ → Option OwnWord
alone name =
    cond (is_word name (codes "watch")) (Some Watch)
    (cond (is_word name (codes "shutdown")) (Some Shutdown)
    (cond (is_word name (codes "i-am")) (Some Challenge)
    (cond (is_word name (codes "made")) (Some Prove)
    (cond (is_word name (codes "list")) (Some (Listing all_jobs))
    (cond (is_word name (codes "incoming")) (Some Incoming)
    (cond (is_word name (codes "room")) (Some Room)
    (cond (is_word name (codes "now")) (Some Now)
    (cond (is_word name (codes "printers")) (Some Printers)
    None))))))))

-- ## A word that one number follows

-- The number of a job that nothing follows.
abbrev pub lone_job : List ℕ → Option ℕ
lone_job line = cond (is_blank_line (after_word line)) (job_in (first_word line)) None

-- The number of a change that nothing follows.
abbrev pub lone_number : List ℕ → Option ℕ
lone_number line = cond (is_blank_line (after_word line)) (number_of (first_word line)) None

-- ## A word that other words follow

-- NAME
abbrev pub queue_word : List (List ℕ) → Option OwnWord
queue_word (name ∷ []) = option_map (λ queue. Queue queue) (queue_in name)
queue_word words = None

-- Keys and values.
abbrev pub list_word : List (List ℕ) → Option OwnWord
list_word words = option_map (λ selection. Listing selection) (selection_in all_jobs words)

-- TOKEN
abbrev pub find_word : List (List ℕ) → Option OwnWord
find_word (token ∷ []) = option_map (λ found. Find found) (text_in is_token token)
find_word words = None

abbrev pub close_of : Option ℕ → Option (List ℕ) → Option (List ℕ) → Option OwnWord
close_of (Some job) (Some name) (Some media) = Some (CloseAs job name media)
close_of job name media = None

-- JOB NAME TYPE
abbrev pub close_word : List (List ℕ) → Option OwnWord
close_word (job ∷ name ∷ media ∷ []) = close_of (job_in job) (text_in is_file_name name) (media_in media)
close_word words = None

abbrev pub close_at : Option ℕ → Option ℕ → Option (List ℕ) → Option (List ℕ) → Option OwnWord
close_at (Some job) (Some size) (Some name) media = Some (CloseAt job size name media)
close_at job size name media = None

-- JOB SIZE NAME, or JOB SIZE NAME TYPE
abbrev pub close_at_word : List (List ℕ) → Option OwnWord
close_at_word (job ∷ size ∷ name ∷ []) = close_at (job_in job) (number_of size) (text_in is_file_name name) None
close_at_word (job ∷ size ∷ name ∷ media ∷ []) = option_and_then (λ given. close_at (job_in job) (number_of size) (text_in is_file_name name) (Some given)) (media_in media)
close_at_word words = None

-- Whether further words may follow this one.
abbrev pub has_words : List ℕ → Bool
has_words name = is_word name (codes "queue") || (is_word name (codes "list") || (is_word name (codes "find") || (is_word name (codes "close") || is_word name (codes "closeat"))))

abbrev pub with_words : List ℕ → List (List ℕ) → Option OwnWord
with_words name words =
    cond (is_word name (codes "queue")) (queue_word words)
    (cond (is_word name (codes "list")) (list_word words)
    (cond (is_word name (codes "find")) (find_word words)
    (cond (is_word name (codes "close")) (close_word words)
    (cond (is_word name (codes "closeat")) (close_at_word words)
    None))))

-- ## The table

-- The request of a word and the rest of its line, which is not blank.
abbrev pub followed : List ℕ → List ℕ → Option OwnWord
followed name rest =
    cond (is_word name (codes "job")) (option_map (λ job. Job job) (lone_job rest))
    (cond (is_word name (codes "wait")) (option_map (λ job. Wait job) (lone_job rest))
    (cond (is_word name (codes "end")) (option_map (λ job. End job) (lone_job rest))
    (cond (is_word name (codes "stop")) (option_map (λ job. Stop job) (lone_job rest))
    (cond (is_word name (codes "why")) (option_map (λ job. Why job) (lone_job rest))
    (cond (is_word name (codes "watch")) (option_map (λ number. WatchFrom number) (lone_number rest))
    (cond (has_words name) (option_and_then (with_words name) (words_of rest))
    None))))))

abbrev pub said : List ℕ → List ℕ → Option OwnWord
said name rest = cond (is_blank_line rest) (alone name) (followed name rest)

abbrev pub own_word : List ℕ → Option OwnWord
own_word line = said (first_word line) (after_word line)
