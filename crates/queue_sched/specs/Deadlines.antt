-- The deadlines of waiting jobs that must start by a moment, as their callers see them.
use Rattle.std.specs.Prelude.{◌≡◌, ℕ, Bool, cond, nat_lt, ◌==◌, List, IsTrue}
use Rattle.std.specs.List.{Contains, AllPairs}
use Rattle.queue_sched.specs.declared.deadlines.Deadline.{Deadline}

-- The earlier moment comes first. For the same moment the lower number comes first.
abbrev pub comes_before : Deadline → Deadline → Bool
comes_before d e = cond (d.by == e.by) (nat_lt d.id e.id) (nat_lt d.by e.by)

-- The deadlines, and the number that fit without allocating.
pub record Limits : Type 0 where
  pub items : List Deadline
  pub room : ℕ

-- Each deadline comes before all later ones.
abbrev pub InTurn : List Deadline → Type 0
InTurn items = AllPairs (λ d e. IsTrue (comes_before d e)) items

-- No deadline is that of this job.
abbrev pub LacksDeadline : List Deadline → ℕ → Type 0
LacksDeadline items j = (d : Deadline) → Contains items d → ¬ (d.id ≡ j)

-- No two deadlines are those of the same job.
abbrev pub HasEachDeadlineOnce : List Deadline → Type 0
HasEachDeadlineOnce items = AllPairs (λ d e. ¬ (d.id ≡ e.id)) items
