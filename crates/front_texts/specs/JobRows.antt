-- Rows of `jobs`.
use Rattle.std.specs.Prelude.{ℕ, cond, List, codes, Option, None, Some}
use Rattle.std.specs.Option.{option_and_then}
use Rattle.line_words.specs.Blanks.{first_word, after_word}
use Rattle.command_lines.specs.CommandGrammar.{job_in}
use Rattle.spool_types.specs.Values.{is_queue_name, is_title, text_in}
use Rattle.front_texts.specs.ShownUsers.{is_shown_user}
use Rattle.front_texts.specs.ReplyFields.{is_word, quoted_text, after_quoted, is_end, count_in, job_state_of, reason_in}
use Rattle.front_texts.specs.declared.job_line.JobLine.{JobLine}
use Rattle.front_texts.specs.declared.job_line.JobHead.{JobHead}
use Rattle.front_texts.specs.declared.job_line.JobTail.{JobTail}
use Rattle.front_texts.specs.declared.states.JobState.{JobState}

abbrev pub head_of : Option ℕ → Option (List ℕ) → Option JobState → Option (Option (List ℕ)) → Option JobHead
head_of (Some number) (Some queue) (Some state) (Some reason) = Some (record { number = number; queue = queue; state = state; reason = reason })
head_of number queue state reason = None

-- The first words of a row.
abbrev pub head_row : List ℕ → List ℕ → List ℕ → List ℕ → Option JobHead
head_row number queue state reason = head_of (job_in number) (text_in is_queue_name queue) (job_state_of state) (reason_in reason)

abbrev pub tail_of : Option (List ℕ) → Option ℕ → Option ℕ → Option (List ℕ) → Option JobTail
tail_of (Some user) (Some size) (Some pages) (Some title) = Some (record { user = user; size = size; pages = pages; title = title })
tail_of user size pages title = None

-- A row from the user on, from the quoted text that was read and the text after it.
abbrev pub tail_from : Option (List ℕ) → List ℕ → Option JobTail
tail_from user line =
    let pages = after_word line in
    let title = after_word pages in
    cond (is_end (after_quoted title))
    (tail_of (option_and_then (text_in is_shown_user) user) (count_in (first_word line)) (count_in (first_word pages)) (option_and_then (text_in is_title) (quoted_text title)))
    None

abbrev pub tail_row : List ℕ → Option JobTail
tail_row line = tail_from (quoted_text line) (after_quoted line)

abbrev pub joined : Option JobHead → Option JobTail → Option JobLine
joined (Some head) (Some tail) = Some (record {
  number = head.number;
  queue = head.queue;
  state = head.state;
  reason = head.reason;
  user = tail.user;
  size = tail.size;
  pages = tail.pages;
  title = tail.title;
})
joined head tail = None

-- The words of a row after `job`.
abbrev pub job_words : List ℕ → Option JobLine
job_words line =
    let queue = after_word line in
    let state = after_word queue in
    let reason = after_word state in
    joined (head_row (first_word line) (first_word queue) (first_word state) (first_word reason)) (tail_row (after_word reason))

-- A row without its line feed.
abbrev pub job_row : List ℕ → Option JobLine
job_row line = cond (is_word (first_word line) (codes "job")) (job_words (after_word line)) None
