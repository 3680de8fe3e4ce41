-- The meaning of the printed row of a job.
use Rattle.std.specs.Prelude.{◌≡◌, ℕ, ◌<◌, ◌≤◌, ◌^◌, cond, List, ◌++◌, codes, Option, None, Some, IsTrue}
use Rattle.std.specs.Str.{is_utf8}
use Rattle.spool_types.specs.Limits.{greatest_number}
use Rattle.spool_types.specs.Phases.{is_in_force, job_reason}
use Rattle.spool_types.specs.State.{Job}
use Rattle.spool_types.specs.Values.{is_queue_name, is_title}
use Rattle.front_texts.specs.ShownUsers.{is_shown_user}
use Rattle.spool_types.specs.declared.phase.Phase.{Phase}
use Rattle.spool_types.specs.declared.phase.Phase.TheVariants.{Incoming, Waiting, Processing, Completed, Canceled, Aborted}
use Rattle.command_lines.specs.Replies.{job_line}
use Rattle.front_texts.specs.ReplyFields.{is_word}
use Rattle.front_texts.specs.JobRows.{job_row}
use Rattle.front_texts.specs.declared.job_line.JobLine.{JobLine}
use Rattle.front_texts.specs.declared.states.JobState.{JobState}
use Rattle.front_texts.specs.declared.states.JobState.TheVariants as states

-- The property that each job of the spooler has, by the types of its fields, also one whose user and title are hidden.
pub record IsJob (r : Job) : Type 0 where
  pub least : 1 ≤ r.id
  pub most : r.id ≤ greatest_number
  pub queue : IsTrue (is_queue_name r.queue)
  pub queue_text : IsTrue (is_utf8 r.queue)
  pub user : IsTrue (is_shown_user r.user)
  pub user_text : IsTrue (is_utf8 r.user)
  pub title : IsTrue (is_title r.title)
  pub title_text : IsTrue (is_utf8 r.title)
  pub size : r.size < 2 ^ 32
  pub pages : r.pages < 2 ^ 32

abbrev pub state_of : ℕ → Phase → JobState
state_of now (Incoming hold) = states.Held
state_of now (Waiting hold not_before first) = cond (is_in_force now hold) states.Held states.Pending
state_of now (Processing attempt stage stages) = states.Processing
state_of now Completed = states.Completed
state_of now Canceled = states.Canceled
state_of now (Aborted reason) = states.Aborted

-- The reason of the state, if it has one.
abbrev pub reason_of : List ℕ → Option (List ℕ)
reason_of word = cond (is_word word (codes "none")) None (Some word)

abbrev pub line_of : ℕ → Job → JobLine
line_of now r = record {
  number = r.id;
  queue = r.queue;
  state = state_of now r.phase;
  reason = reason_of (job_reason now r.phase);
  user = r.user;
  size = r.size;
  pages = r.pages;
  title = r.title;
}

-- Each row that the spooler prints reads as its job at the moment `now`.
abbrev pub JobRowsReadBack : Type 0
JobRowsReadBack = (now : ℕ) (r : Job) (line : List ℕ) → IsJob r → line ++ codes "\n" ≡ job_line now r → job_row line ≡ Some (line_of now r)
