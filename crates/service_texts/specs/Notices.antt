-- The changes, for clients that watch.
use Rattle.std.specs.Prelude.{ℕ, ◌+◌, Bool, true, false, cond, nat_eq, nat_le, List, [], ◌∷◌, ◌++◌, length, codes, Option, None, Some}
use Rattle.std.specs.Cmp.Lexicographic.{pointwise}
use Rattle.std.specs.Fmt.{decimal}
use Rattle.std.specs.List.{flat_map, list_any}
use Rattle.client_standing.specs.ClientStanding.{ClientStanding}
use Rattle.queue_sayings.specs.QueueSayings.{shown_queue_line}
use Rattle.spool_types.specs.State.{State, Job, job_at, queue_at}
use Rattle.spool_types.specs.declared.rows.QueueRow.{QueueRow}
use Rattle.service_texts.specs.Shown.{shown_line}
use Rattle.event_records.specs.NumberedChanges.{NumberedChanges, is_known, since}
use Rattle.event_records.specs.declared.changes.Subject.{Subject}
use Rattle.event_records.specs.declared.changes.Subject.TheVariants as subjects

-- Jobs and queues, each once in the order of their first notes, and whether more have changed.
pub record Noted : Type 0 where
  pub jobs : List ℕ
  pub queues : List (List ℕ)
  pub missed : Bool

abbrev pub nothing_noted : Noted
nothing_noted = record { jobs = []; queues = []; missed = false }

-- ## Noting

-- At most 256 are noted.
abbrev pub is_full : Noted → Bool
is_full n = nat_le 256 (length n.jobs + length n.queues)

abbrev pub has_job : Noted → ℕ → Bool
has_job n job = list_any (λ noted. nat_eq noted job) n.jobs

abbrev pub has_queue : Noted → List ℕ → Bool
has_queue n name = list_any (λ noted. pointwise nat_eq noted name) n.queues

abbrev pub with_job : Noted → ℕ → Noted
with_job n job = cond (has_job n job) n (cond (is_full n) (record n { missed = true }) (record n { jobs = n.jobs ++ job ∷ [] }))

abbrev pub with_queue : Noted → List ℕ → Noted
with_queue n name = cond (has_queue n name) n (cond (is_full n) (record n { missed = true }) (record n { queues = n.queues ++ name ∷ [] }))

-- ## What changed after a number

abbrev pub with_subject : Noted → Subject → Noted
with_subject n (subjects.Job job) = with_job n job
with_subject n (subjects.Queue name) = with_queue n name

abbrev pub with_subjects : Noted → List Subject → Noted
with_subjects n [] = n
with_subjects n (x ∷ xs) = with_subjects (with_subject n x) xs

-- Nothing is noted but that some were missed.
abbrev pub all_missed : Noted
all_missed = record { jobs = []; queues = []; missed = true }

-- What changed after the change of this number, or that some were missed if the number is not known.
abbrev pub noted_since : NumberedChanges → ℕ → Noted
noted_since c number = cond (is_known c number) (with_subjects nothing_noted (since c number)) all_missed

-- ## Lines of notices

-- The line of the listing, as far as the client may see it, or `gone`.
abbrev pub job_news : ClientStanding → ℕ → ℕ → Option Job → List ℕ
job_news c now job None = codes "gone job " ++ decimal job ++ codes "\n"
job_news c now job (Some r) = shown_line c now r

abbrev pub queue_news : ClientStanding → State → List ℕ → Option QueueRow → List ℕ
queue_news c s name None = codes "gone queue " ++ name ++ codes "\n"
queue_news c s name (Some q) = shown_queue_line c s q

abbrev pub job_told : ClientStanding → State → ℕ → List ℕ
job_told c s job = job_news c s.moment job (job_at s job)

abbrev pub queue_told : ClientStanding → State → List ℕ → List ℕ
queue_told c s name = queue_news c s name (queue_at s name)

abbrev pub missed_text : Bool → List ℕ
missed_text missed = cond missed (codes "missed\n") []

-- The line that ends what a client that counts the changes is sent.
abbrev pub change_text : ℕ → List ℕ
change_text number = codes "change " ++ decimal number ++ codes "\n"

-- A line for each job, and then for each queue, as they are now.
abbrev pub told : ClientStanding → State → Noted → List ℕ
told c s n = flat_map (job_told c s) n.jobs ++ flat_map (queue_told c s) n.queues ++ missed_text n.missed

-- The reply to a client that asks what changed after this number.
abbrev pub watch_text : ClientStanding → State → NumberedChanges → ℕ → List ℕ
watch_text c s changes number = codes "ok\n" ++ told c s (noted_since changes number) ++ change_text changes.last
