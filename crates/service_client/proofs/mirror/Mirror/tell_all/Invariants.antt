-- The fold of the remaining lines, from the rows so far, is that of all lines.
use Rattle.std.proofs.Common.{◌≡◌, List, ℕ, drop}
use Rattle.std.specs.Prelude.{map}
use Rattle.service_client.specs.Mirrors.{job_at, known, queue_at}
use Rattle.service_client.specs.Notices.{jobs_after, known_after_all, queues_after}
use Rattle.service_client.proofs.mirror.Mirror.tell_all.Given as goal

abbrev pub invariant-loop-line : goal.invariant-loop-line
invariant-loop-line l = record {
  jobs : (job : ℕ) → jobs_after (map (λ line. line.items) (drop l.line-index l.lines)) job (job_at l.self job) ≡ jobs_after (map (λ line. line.items) l.lines) job (job_at l.fn.self job);
  queues : (queue : List ℕ) → queues_after (map (λ line. line.items) (drop l.line-index l.lines)) queue (queue_at l.self queue)
      ≡ queues_after (map (λ line. line.items) l.lines) queue (queue_at l.fn.self queue);
  is_known : known_after_all (map (λ line. line.items) (drop l.line-index l.lines)) (known l.self) ≡ known_after_all (map (λ line. line.items) l.lines) (known l.fn.self);
}
