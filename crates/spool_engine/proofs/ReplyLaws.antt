-- The reply of a step is Script's.
use Rattle.std.proofs.Common.{◌≡◌, ◌⊎◌, inl, inr, ⊎_elim, false, refl}
use Rattle.print_rounds.specs.RunStates.{RunState}
use Rattle.spool_engine.specs.EventSteps.{Setting}
use Rattle.spool_engine.specs.EngineRuns.{CommandStep, IsCommandStep, is_round, read_by, script_state_with}
use Rattle.spool_engine.specs.StepReplies.{IsReplied}
use Rattle.spool_engine.proofs.ExactLaws.{IsTelling, turn_exact, turn_read}
use Rattle.spool_engine.proofs.SettleLaws.{FinishLaw}

pub replied : {D : Type 0} (finish : FinishLaw) (v : Setting D) (s : RunState D) (t : CommandStep D) → IsCommandStep v s t → IsReplied v s t
replied finish v s t is = λ told which well.
    let may : IsTelling s (script_state_with s told) ⊎ (is_round t.command ≡ false) = ⊎_elim (λ plain. inr plain) (λ both. inl (record { slots = refl; told = both.0; tickets = both.1 })) which in
    (turn_exact finish v s (script_state_with s told) t (read_by t.document t.how) t.how well refl refl may (turn_read v s t t.how) is.how).said.text
