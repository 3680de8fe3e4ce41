-- The reply of a step, if nothing failed in it.
use Rattle.std.specs.Prelude.{◌≡◌, ◌⊎◌, false, Some}
use Rattle.child_pipeline.specs.Tickets.{HasTickets}
use Rattle.child_pipeline.specs.ChildTraces.{ChildTrace}
use Rattle.print_rounds.specs.RunStates.{RunState}
use Rattle.spool_engine.specs.EventSteps.{Setting}
use Rattle.spool_engine.specs.EngineRuns.{CommandStep, IsWell, asked_by, is_round, script_state_with}
use Rattle.spool_engine.specs.Script.{reply_of}

-- The reply is Script's on the run state that the step found. For `round` and `drain` this requires that the children report and that the
-- slots have the tickets of the running ones.
abbrev pub IsReplied : {D : Type 0} → Setting D → RunState D → CommandStep D → Type 0
IsReplied v s t =
    (told : ChildTrace) → (is_round t.command ≡ false) ⊎ ((s.told ≡ Some told) × HasTickets s.slots told) → IsWell t.how →
    t.text ≡ reply_of v.mime v.place (script_state_with s told) (asked_by t)
