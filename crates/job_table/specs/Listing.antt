-- The rows that a checkpoint writes for a table.
use Rattle.std.specs.Prelude.{ℕ, zero, suc, ◌+◌, ◌/◌, List, [], ◌∷◌, ◌++◌, length, take, drop, map}
use Rattle.std.specs.List.{flat_map}
use Rattle.std.specs.FinMap as finite
use Rattle.spool_types.specs.Limits.{longest_send}
use Rattle.spool_types.specs.State.{State, Job}
use Rattle.spool_types.specs.declared.listing.Head.{Head as HeadRow}
use Rattle.spool_types.specs.declared.listing.Row.{Row}
use Rattle.spool_types.specs.declared.listing.Row.TheVariants.{Head, Queue, Job as JobRow, Piece}

-- n parts of the bytes. Each part except the last has the length `longest`.
abbrev pub parts : ℕ → ℕ → List ℕ → List (List ℕ)
parts longest zero bytes = []
parts longest (suc n) bytes = take longest bytes ∷ parts longest n (drop longest bytes)

-- The bytes in parts of the greatest length, followed by the rest.
abbrev pub pieces : List ℕ → List (List ℕ)
pieces bytes = parts longest_send ((length bytes + 65535) / longest_send) bytes

-- A job, followed by the pieces of its document.
abbrev pub job_rows : Job → List ℕ → List Row
job_rows r document = JobRow r ∷ map (λ bytes. Piece r.id bytes) (pieces document)

abbrev pub head_of : State → HeadRow
head_of s = record { highest = s.highest; moment = s.moment }

-- The head, the queues in ascending order of name, and the jobs in ascending order of number, each followed by the
-- pieces of its document.
abbrev pub listing : State → (ℕ → List ℕ) → List Row
listing s documents =
    Head (head_of s)
    ∷ (map (λ q. Queue q) (finite.values s.queues) ++ flat_map (λ r. job_rows r (documents r.id)) (finite.values s.jobs))
