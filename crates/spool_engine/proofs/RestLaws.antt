-- If no child ran before the steps, none runs after them.
use Rattle.std.proofs.Common.{List, [], ◌∷◌, ℕ, sym, subst}
use Rattle.print_rounds.specs.RunStates.{RunState}
use Rattle.print_rounds.specs.Finished.{HasNoneRunning}
use Rattle.spool_engine.specs.EventSteps.{Setting}
use Rattle.spool_engine.specs.EngineRounds.{Ran, AreRan, AreRunBy}
use Rattle.spool_engine.specs.EngineRuns.{CommandStep, How, answered, ran, withheld, IsHow, AreCommandSteps, last_run_state, Lead}
use Rattle.spool_engine.specs.Script.{Meaning, says, asks, lists, runs, meaning}

module _ {D : Type 0} (v : Setting D) where
  rans_rest : (s : RunState D) (rs : List (Ran D)) (new : RunState D) → AreRan v s rs new → HasNoneRunning s.slots → HasNoneRunning new.slots
  rans_rest s [] new same rest = subst (λ (c : RunState D). HasNoneRunning c.slots) (sym same) rest
  rans_rest s (r ∷ rs) new (is, others) rest = rans_rest r.next rs new others is.rest

  rows_rest : (w : Meaning) (s : RunState D) (rs : List (Ran D)) (new : RunState D) (reply : List ℕ) → AreRunBy v w s rs new reply → HasNoneRunning s.slots → HasNoneRunning new.slots
  rows_rest (says text) s rs new reply is rest = absurd is
  rows_rest (asks e line) s rs new reply is rest = absurd is
  rows_rest lists s rs new reply is rest = absurd is
  rows_rest (runs most line) s rs new reply is rest = rans_rest s rs new is.each rest

  how_rests : (s : RunState D) (t : CommandStep D) (how : How D) → IsHow v s t how → HasNoneRunning s.slots → HasNoneRunning t.next.slots
  how_rests s t (answered outcome) is rest = subst HasNoneRunning (sym is.1.slots) rest
  how_rests s t withheld is rest = subst (λ (c : RunState D). HasNoneRunning c.slots) (sym is.same) rest
  how_rests s t (ran rs) is rest = rows_rest (meaning v.mime s.spool.state t.document t.command) s rs t.next t.text is rest

  turns_rest : (s : RunState D) (ts : List (CommandStep D)) → AreCommandSteps v s ts → HasNoneRunning s.slots → HasNoneRunning (last_run_state s ts).slots
  turns_rest s [] are rest = rest
  turns_rest s (t ∷ ts) (is, others) rest = turns_rest t.next ts others (how_rests s t t.how is.how rest)

  pub lead_rests : (s : RunState D) (ts : List (CommandStep D)) (s' : RunState D) → Lead v s ts s' → HasNoneRunning s.slots → HasNoneRunning s'.slots
  lead_rests s ts s' lead rest = subst (λ (c : RunState D). HasNoneRunning c.slots) lead.last (turns_rest s ts lead.legal rest)
