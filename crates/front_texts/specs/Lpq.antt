-- The output of `lpq`, as CUPS prints it, except that no text is cut.
use Rattle.std.specs.Prelude.{ℕ, ◌+◌, ◌/◌, ◌%◌, Bool, ◌&&◌, not, cond, ◌==◌, nat_eq, List, [], ◌∷◌, ◌++◌, codes}
use Rattle.std.specs.Cmp.Lexicographic.{pointwise}
use Rattle.std.specs.Fmt.{decimal}
use Rattle.std.specs.List.{list_any}
use Rattle.front_texts.specs.ShownUsers.{owner_word}
use Rattle.clean_texts.specs.CleanTexts.{clean_text}
use Rattle.front_texts.specs.Lpstat.{padded, is_processing}
use Rattle.front_texts.specs.StateWords.{is_ended}
use Rattle.front_texts.specs.declared.job_line.JobLine.{JobLine}
use Rattle.front_texts.specs.declared.lpq_form.TheConstants.{HEADING}
use Rattle.front_texts.specs.declared.queue_line.QueueLine.{QueueLine}
use Rattle.front_texts.specs.declared.states.PrinterState.{PrinterState}
use Rattle.front_texts.specs.declared.states.PrinterState.TheVariants as printers

-- A job of the queue that has not ended.
abbrev pub is_entry : List ℕ → JobLine → Bool
is_entry queue j = not (is_ended j.state) && pointwise nat_eq j.queue queue

abbrev pub has_entry : List ℕ → List JobLine → Bool
has_entry queue js = list_any (is_entry queue) js

abbrev pub ready_word : PrinterState → List ℕ
ready_word printers.Idle = codes " is ready\n"
ready_word printers.Processing = codes " is ready and printing\n"
ready_word printers.Stopped = codes " is not ready\n"

abbrev pub ready_line : QueueLine → List ℕ
ready_line q = q.name ++ ready_word q.state

-- 1st, 2nd, 3rd, 4th, 11th
abbrev pub last_ending : ℕ → List ℕ
last_ending digit = cond (digit == 1) (codes "st") (cond (digit == 2) (codes "nd") (cond (digit == 3) (codes "rd") (codes "th")))

abbrev pub rank_ending : ℕ → List ℕ
rank_ending rank = cond (rank / 10 % 10 == 1) (codes "th") (last_ending (rank % 10))

abbrev pub rank_word : ℕ → JobLine → List ℕ
rank_word rank j = cond (is_processing j.state) (codes "active") (decimal rank ++ rank_ending rank)

abbrev pub rank_cell : ℕ → ℕ → JobLine → List ℕ
rank_cell columns rank j = padded columns (rank_word rank j)

abbrev pub owner_cell : JobLine → List ℕ
owner_cell j = padded 7 (clean_text (owner_word j.user))

abbrev pub number_cell : JobLine → List ℕ
number_cell j = padded 7 (decimal j.number)

abbrev pub title_cell : ℕ → JobLine → List ℕ
title_cell columns j = padded columns (clean_text j.title)

abbrev pub bytes_part : JobLine → List ℕ
bytes_part j = decimal j.size ++ codes " bytes\n"

abbrev pub short_entry : ℕ → JobLine → List ℕ
short_entry rank j = rank_cell 7 rank j ++ owner_cell j ++ number_cell j ++ title_cell 31 j ++ bytes_part j

-- ## The long form

abbrev pub owner_part : JobLine → List ℕ
owner_part j = codes "\n" ++ clean_text (owner_word j.user) ++ codes ": "

abbrev pub number_part : JobLine → List ℕ
number_part j = codes "[job " ++ decimal j.number ++ codes " localhost]\n        "

abbrev pub long_entry : ℕ → JobLine → List ℕ
long_entry rank j = owner_part j ++ rank_cell 33 rank j ++ number_part j ++ title_cell 39 j ++ bytes_part j

-- ## The listing

abbrev pub entry_line : Bool → ℕ → JobLine → List ℕ
entry_line long rank j = cond long (long_entry rank j) (short_entry rank j)

-- The rank of the next job. A processing job has no rank.
abbrev pub next_rank : ℕ → JobLine → ℕ
next_rank rank j = cond (is_processing j.state) rank (rank + 1)

-- A job if it is shown, and the rank of the next one.
abbrev pub entry_part : Bool → List ℕ → ℕ → JobLine → List ℕ
entry_part long queue rank j = cond (is_entry queue j) (entry_line long rank j) []

abbrev pub rank_after : List ℕ → ℕ → JobLine → ℕ
rank_after queue rank j = cond (is_entry queue j) (next_rank rank j) rank

abbrev pub entries : Bool → List ℕ → ℕ → List JobLine → List ℕ
entries long queue rank [] = []
entries long queue rank (j ∷ js) = entry_part long queue rank j ++ entries long queue (rank_after queue rank j) js

abbrev pub heading : Bool → List ℕ
heading long = cond long (codes "\n") HEADING.now

abbrev pub entries_text : Bool → List ℕ → List JobLine → List ℕ
entries_text long queue js = cond (has_entry queue js) (heading long ++ entries long queue 1 js) (codes "no entries\n")

abbrev pub queue_text : Bool → QueueLine → List JobLine → List ℕ
queue_text long q js = ready_line q ++ entries_text long q.name js
