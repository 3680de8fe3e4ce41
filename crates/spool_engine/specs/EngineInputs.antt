-- *RightInput* over calls that include ticks: a child may end in a later call than it was started in, and another order may be answered
-- before it.
use Rattle.std.specs.Prelude.{◌≡◌, ◌⊎◌, List, [], ◌∷◌, ◌++◌, map, Some}
use Rattle.child_pipeline.specs.ChildTraces.{ChildTrace}
use Rattle.child_pipeline.specs.declared.order.Placed.{Placed}
use Rattle.print_rounds.specs.RunStates.{RunState}
use Rattle.print_rounds.specs.TickInputs.{AllRight, answers_in, finished_in}
use Rattle.print_rounds.specs.Inputs.{AnsweredOrder, answered, AreRight}
use Rattle.print_rounds.specs.RoundTicks.{AreFinishings, Finishing, IsTickOf, running_jobs}
use Rattle.spool_engine.specs.EngineCalls.{Call, round_call, tick_call, run_call, stage_call, settle_call, left_by}
use Rattle.spool_engine.specs.EventSteps.{Setting}
use Rattle.spool_engine.specs.EngineRounds.{Ran}
use Rattle.spool_engine.specs.EngineRuns.{CommandStep, How, answered as replied, ran, withheld}
use Rattle.spool_engine.specs.EngineTicks.{Ticked}

-- The new orders between two run states whose children report.
pub record AddOrders {D : Type 0} (old new : RunState D) : Type 0 where
  pub t : ChildTrace
  pub before : old.told ≡ Some t
  pub now : ChildTrace
  pub after : new.told ≡ Some now
  pub orders : List Placed
  pub added : now.orders ≡ t.orders ++ orders

-- A round after these earlier answers. Its answers are those of the children that ran before it, followed by those of its own orders. Each
-- of its orders is right and is answered in it.
pub record IsRoundRight {D : Type 0} (earlier : List AnsweredOrder) (s : RunState D) (r : Ran D) (answers : List AnsweredOrder) : Type 0 where
  pub waited : List Finishing
  pub jobs : map (λ f. f.job) waited ≡ running_jobs s.slots
  pub waits : AreFinishings s.slots s.told waited r.settled.slots r.settled.told
  pub adds : AddOrders s r.next
  pub between : ChildTrace
  pub told : r.settled.told ≡ Some between
  pub all : map (λ x. x.order) (answered between.starts between.finishes adds.orders) ≡ map (λ p. p.order) adds.orders
  pub right : AreRight (earlier ++ finished_in s.slots s.told waited) (answered between.starts between.finishes adds.orders)
  pub given : answers ≡ finished_in s.slots s.told waited ++ answered between.starts between.finishes adds.orders

-- The answers of a tick, by its steps. A tick that did nothing has none.
abbrev pub IsTickGiven : {D : Type 0} → Setting D → RunState D → Ticked D → List AnsweredOrder → Type 0
IsTickGiven v s k answers = ((k.next ≡ s) × (answers ≡ [])) ⊎ ((made : IsTickOf v.device v.place k.limits s k.next k.result) × (answers ≡ answers_in s made.steps))

-- A tick after these earlier answers. Its orders depend only on them, because they precede the tick's own answers.
pub record IsTickRight {D : Type 0} (v : Setting D) (earlier : List AnsweredOrder) (s : RunState D) (k : Ticked D) (answers : List AnsweredOrder) : Type 0 where
  pub adds : AddOrders s k.next
  pub right : AllRight earlier adds.orders
  pub given : IsTickGiven v s k answers

-- Each round is right after the earlier answers and those of the previous rounds.
abbrev pub AreRoundsRight : {D : Type 0} → List AnsweredOrder → RunState D → List (Ran D) → List AnsweredOrder → Type 0
AreRoundsRight earlier s [] answers = answers ≡ []
AreRoundsRight earlier s (r ∷ rs) answers =
    (here : List AnsweredOrder) × (there : List AnsweredOrder) × IsRoundRight earlier s r here × AreRoundsRight (earlier ++ here) r.next rs there × (answers ≡ here ++ there)

abbrev pub IsHowRight : {D : Type 0} → List AnsweredOrder → RunState D → How D → List AnsweredOrder → Type 0
IsHowRight earlier s (replied outcome) answers = answers ≡ []
IsHowRight earlier s (ran rs) answers = AreRoundsRight earlier s rs answers
IsHowRight earlier s withheld answers = answers ≡ []

abbrev pub AreStepsRight : {D : Type 0} → List AnsweredOrder → RunState D → List (CommandStep D) → List AnsweredOrder → Type 0
AreStepsRight earlier s [] answers = answers ≡ []
AreStepsRight earlier s (t ∷ ts) answers =
    (here : List AnsweredOrder) × (there : List AnsweredOrder) × IsHowRight earlier s t.how here × AreStepsRight (earlier ++ here) t.next ts there × (answers ≡ here ++ there)

abbrev pub IsCallRight : {D : Type 0} → Setting D → List AnsweredOrder → RunState D → Call D → List AnsweredOrder → Type 0
IsCallRight v earlier s (round_call r) answers = IsRoundRight earlier s r answers
IsCallRight v earlier s (tick_call k) answers = IsTickRight v earlier s k answers
IsCallRight v earlier s (run_call turns) answers = AreStepsRight earlier s turns answers
IsCallRight v earlier s (stage_call t) answers = answers ≡ []
IsCallRight v earlier s (settle_call next) answers = answers ≡ []

-- Each call is right after the earlier answers and those of the previous calls.
abbrev pub AreCallsRight : {D : Type 0} → Setting D → List AnsweredOrder → RunState D → List (Call D) → Type 0
AreCallsRight v earlier s [] = Unit {0}
AreCallsRight v earlier s (c ∷ cs) = (answers : List AnsweredOrder) × IsCallRight v earlier s c answers × AreCallsRight v (earlier ++ answers) (left_by s c) cs
