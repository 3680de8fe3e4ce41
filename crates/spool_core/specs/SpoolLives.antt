-- Many lives of a spool: each begins by opening an image that a crash left of the previous one.
use Rattle.std.specs.Prelude.{ℕ, ◌-◌, ◌≤◌, List, [], ◌∷◌, ◌++◌, take, drop}
use Rattle.spool_types.specs.declared.event.Event.{Event}
use Rattle.spool_types.specs.declared.event.Event.TheVariants.{Reopen}
use Rattle.spool_types.specs.State.{State}
use Rattle.job_table.specs.Attempts.{reopened}
use Rattle.job_table.specs.EventFold.{after_all}
use Rattle.spool_core.specs.Driving.{documents_after}

-- A life: its events, the number of acknowledged ones, and the number of those left by a crash. Both numbers count from the first
-- event.
pub record Life : Type 0 where
  pub events : List Event
  pub acknowledged : ℕ
  pub left : ℕ

-- The crash left every acknowledged event.
abbrev pub KeepsAcknowledged : Life → Type 0
KeepsAcknowledged l = l.acknowledged ≤ l.left

-- The table with which the next life begins: the one after the events that are left, with each job that was started and has not
-- ended changed as its queue's error policy specifies.
abbrev pub next_table : State → Life → State
next_table s l = reopened (after_all s (take l.left l.events))

abbrev pub after_lives : State → List Life → State
after_lives s [] = s
after_lives s (l ∷ ls) = after_lives (next_table s l) ls

-- The documents with which the next life begins: those after the events that are left.
abbrev pub next_documents : State → (ℕ → List ℕ) → Life → ℕ → List ℕ
next_documents s documents l = documents_after s documents (take l.left l.events)

abbrev pub documents_after_lives : State → (ℕ → List ℕ) → List Life → ℕ → List ℕ
documents_after_lives s documents [] = documents
documents_after_lives s documents (l ∷ ls) = documents_after_lives (next_table s l) (next_documents s documents l) ls

-- All lives as one list of events: for each life the events that a crash left, and then the opening.
abbrev pub history_of : List Life → List Event
history_of [] = []
history_of (l ∷ ls) = take l.left l.events ++ Reopen ∷ history_of ls

-- The events after the acknowledged events of a life, in this life and the later ones.
abbrev pub later_events : Life → List Life → List Event
later_events l ls = take (l.left - l.acknowledged) (drop l.acknowledged l.events) ++ Reopen ∷ history_of ls
