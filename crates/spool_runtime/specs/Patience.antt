-- How often the starts of a round may still wait.
use Rattle.std.specs.Prelude.{ℕ, ◌-◌, ◌==◌, ◌&&◌, Bool, false, not, cond, List, Option, None, Some}
use Rattle.spool_runtime.specs.Shortage.{begins_round}
use Rattle.spool_runtime.specs.declared.shortage.Patience.{Patience}

-- A new round: its starts wait 40 times in all, and none has failed.
abbrev pub patient : Patience
patient = record { left = 40; failed = None; last = None; hurried = false }

-- A start for a queue that does not follow the last one begins another round.
abbrev pub begun_after : Option (List ℕ) → List ℕ → Patience → Patience
begun_after None queue patience = patience
begun_after (Some last) queue patience = cond (begins_round last queue) (record patience { left = 40 }) patience

abbrev pub begun : List ℕ → Patience → Patience
begun queue patience = begun_after patience.last queue patience

-- The starts of a tick do not wait, and those of a round no more than they may.
abbrev pub may_wait : Patience → Bool
may_wait patience = not patience.hurried && not (patience.left == 0)

abbrev pub after_wait : Patience → Patience
after_wait patience = cond (may_wait patience) (record patience { left = patience.left - 1 }) patience
