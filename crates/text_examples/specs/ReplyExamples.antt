-- Examples of replies.
use Rattle.std.specs.Prelude.{◌≡◌, true, false, [], ◌∷◌, map, codes, None, Some}
use Rattle.spool_types.specs.State.{Job}
use Rattle.spool_types.specs.declared.phase.Policy.TheVariants.{AbortJob}
use Rattle.spool_types.specs.declared.phase.Phase.TheVariants.{Processing}
use Rattle.spool_types.specs.declared.refusal.Refusal.TheVariants.{NoNumberLeft, NeedsCheckpoint}
use Rattle.spool_types.specs.declared.rows.QueueRow.{QueueRow}
use Rattle.command_lines.specs.Replies.{answer_line, queues_text}
use Rattle.command_lines.specs.declared.reply.Answer.TheVariants.{Done, Created, Sent, Closed, Rounded, Drained, Refused, Malformed, Dead, NoMemory, Full, Disk, EpochEnd}
use Rattle.text_examples.specs.Written.{text}

abbrev pub DoneRows : Type 0
DoneRows = map answer_line (Done ∷ Created 7 ∷ Sent 65536 ∷ Rounded 0 1 ∷ Drained 2 ∷ [])
    ≡ text "ok|" ∷ text "ok job 7|" ∷ text "ok bytes 65536|" ∷ text "ok started 0 finished 1|" ∷ text "ok rounds 2|" ∷ []

abbrev pub ErrorRows : Type 0
ErrorRows = map answer_line (Refused NoNumberLeft ∷ Refused NeedsCheckpoint ∷ Malformed ∷ NoMemory ∷ Dead ∷ Full ∷ Disk ∷ EpochEnd ∷ [])
    ≡ text "error 9 NoNumberLeft|" ∷ text "error 17 NeedsCheckpoint|" ∷ text "error syntax|" ∷ text "error memory|" ∷ text "error dead|"
    ∷ text "error full|" ∷ text "error disk|" ∷ text "error epoch|" ∷ []

-- The reply to a closed job has its type and its stages.
abbrev pub ClosedRows : Type 0
ClosedRows = answer_line (Closed (codes "text/plain") (Some 3)) ≡ text "ok type text/plain stages 3|"

-- The queue `lab`, and its processing job.
abbrev pub lab : QueueRow
lab = record {
  name = codes "lab";
  uri = codes "spoolfile:/out";
  target = codes "application/x-prn";
  policy = AbortJob;
  interval = 30;
  limit = 5;
  info = [];
  location = [];
  accepting = true;
  stopped = false;
  message = [];
  reasons = [];
  attributes = [];
}

abbrev pub busy : Job
busy = record {
  id = 7;
  queue = codes "lab";
  user = codes "ann";
  title = codes "P 1";
  copies = 2;
  priority = 50;
  options = codes "media=A4";
  media = Some (codes "text/plain");
  filters = [];
  attempts = 1;
  pages = 0;
  size = 3;
  phase = Processing 1 1 1;
  by = None;
}

-- No queue, an idle one, and one that is processing.
abbrev pub QueueRows : Type 0
QueueRows = queues_text (busy ∷ []) [] ∷ queues_text [] (lab ∷ []) ∷ queues_text (busy ∷ []) (lab ∷ []) ∷ []
    ≡ text "ok 0|" ∷ text "queue lab 3 accepting application/x-prn abort-job 30 5 none \"\"|ok 1|"
    ∷ text "queue lab 4 accepting application/x-prn abort-job 30 5 none \"\"|ok 1|" ∷ []

-- A stopped queue is listed with its reasons and its message.
abbrev pub StoppedRows : Type 0
StoppedRows = queues_text [] (record lab { accepting = false; stopped = true; message = codes "a \"b\""; reasons = codes "media-empty" ∷ codes "toner-low" ∷ [] } ∷ [])
    ≡ text "queue lab 5 rejecting application/x-prn abort-job 30 5 media-empty,toner-low \"a \\\"b\\\"\"|ok 1|"
