use Rattle.std.specs.Cmp.Lexicographic.{bytes_decides}
use Rattle.queue_edits.proofs.Edits.{ended_jobs_go, job_kept, job_stays, queue_gone, queue_stays}
use Rattle.queue_edits.proofs.laws.only_that_queue_goes.Goals as goal

pub returns : goal.returns
returns c = record {
  queue = λ name s. queue_gone name s;
  others = λ name other s apart. queue_stays name s other apart;
  jobs = λ name s j r at apart. job_stays name s j r at apart;
  no_others = λ name s j r found. job_kept name s j r found;
  ended = λ name purge s j r free at own. ended_jobs_go name purge s j r at ((bytes_decides r.queue name).1 own) free;
}
