-- The mirror of the jobs and queues of a service.
use Rattle.std.specs.Prelude.{ℕ, ◌==◌, Bool, ◌&&◌, not, cond, List, [], ◌∷◌, Option, None, Some}
use Rattle.std.specs.Option.{option_map}
use Rattle.std.specs.Ordering.{nat_cmp}
use Rattle.std.specs.BTreeMap.{get}
use Rattle.service_client.specs.Notices.{Known}
use Rattle.service_client.specs.Replies.{is_word}
use Rattle.service_client.specs.declared.mirror.Mirror.{Mirror}
use Rattle.service_client.specs.declared.rows.NamedRow.{NamedRow}

-- The last row under a name.
abbrev pub row_named : List NamedRow → List ℕ → Option (List ℕ)
row_named [] name = None
row_named (row ∷ rows) name = cond (is_word row.name.items name) (Some row.line.items) (row_named rows name)

abbrev pub job_at : Mirror → ℕ → Option (List ℕ)
job_at mirror job = option_map (λ row. row.items) (get nat_cmp mirror.jobs job)

abbrev pub queue_at : Mirror → List ℕ → Option (List ℕ)
queue_at mirror name = row_named mirror.queues.items name

abbrev pub known : Mirror → Known
known mirror = record { awaited = mirror.awaited; stale = mirror.stale }

-- The mirror shows all jobs and queues: they were listed, and no notice was left out since.
abbrev pub is_whole : Mirror → Bool
is_whole mirror = (mirror.awaited == 0) && not mirror.stale
