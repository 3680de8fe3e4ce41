-- The calls of one engine, in order: rounds, ticks, runs by their steps, staged commands and settles. Each is a call of a StageHistory.
use Rattle.std.specs.Prelude.{◌≡◌, ◌⊎◌, ℕ, true, List, [], ◌∷◌, ◌++◌, map, Some}
use Rattle.spool_types.specs.declared.event.Event.{Event}
use Rattle.job_table.specs.EventFold.{accepted}
use Rattle.job_table.specs.TableCalls.{AreOnce}
use Rattle.child_pipeline.specs.Tickets.{HasTickets}
use Rattle.child_pipeline.specs.ChildTraces.{ChildTrace}
use Rattle.child_pipeline.specs.declared.order.Placed.{Placed}
use Rattle.spool_core.specs.Image.{HasTable, HasWhole}
use Rattle.print_rounds.specs.Counts.{AreAcknowledged}
use Rattle.print_rounds.specs.RunStates.{RunState}
use Rattle.print_rounds.specs.Inputs.{answered, AreRight, HaveDocuments}
use Rattle.print_rounds.specs.Rounds.{HasSomeOf, HasSomeWhole}
use Rattle.print_rounds.specs.StageHistory.{keys_in, IsStageCall}
use Rattle.spool_engine.specs.EventSteps.{Setting}
use Rattle.spool_engine.specs.Mime.{Mime}
use Rattle.spool_engine.specs.EngineRounds.{Ran, IsRan}
use Rattle.spool_engine.specs.EngineRuns.{CommandStep, AreCommandSteps, IsAlong, IsWholeAlong, KeepVersion, commands_in, documents_left, last_run_state, last_documents, tried_in}
use Rattle.spool_engine.specs.Script.{Documents}
use Rattle.spool_engine.specs.EngineTicks.{Ticked, IsTicked}
use Rattle.spool_engine.specs.StagedSteps.{AreSettled, IsStagedStep, SettlesTo}

-- The events that were tried in the steps.
abbrev pub tried_in_steps : {D : Type 0} → Mime → RunState D → List (CommandStep D) → List Event
tried_in_steps m s [] = []
tried_in_steps m s (t ∷ ts) = tried_in m s t ++ tried_in_steps m t.next ts

-- A call of a StageHistory, after which the slots have the tickets of the running children. Its events are the accepted ones among the
-- acknowledged ones. All events that were tried were acknowledged, except the last one if the device failed at it. If the device had failed
-- before, no event was tried.
abbrev pub IsTicketedCall : {D : Type 0} → ChildTrace → RunState D → List Event → RunState D → Type 0
IsTicketedCall t old tried new =
    (more : List Event) × (c : IsStageCall t old more new) × HasTickets new.slots c.now
    × ((acknowledged : List Event) × AreAcknowledged new.spool.dead tried acknowledged × (more ≡ accepted old.spool.state acknowledged))
    × (old.spool.dead ≡ true → tried ≡ [])

-- Such a call after which no child runs.
abbrev pub IsQuietCall : {D : Type 0} → ChildTrace → RunState D → List Event → RunState D → Type 0
IsQuietCall t old tried new = (one : IsTicketedCall t old tried new) × (one.1.now.running ≡ [])

-- The acknowledged events of the steps, and the accepted ones among them, each on the table that its step found.
abbrev pub AreTaken : {D : Type 0} → Mime → RunState D → List (CommandStep D) → List Event → List Event → Type 0
AreTaken m s [] acknowledged more = (acknowledged ≡ []) × (more ≡ [])
AreTaken m s (t ∷ ts) acknowledged more =
    (here : List Event) × (later : List Event) × (further : List Event) × AreAcknowledged t.next.spool.dead (tried_in m s t) here
    × (acknowledged ≡ here ++ later) × (more ≡ accepted s.spool.state here ++ further) × AreTaken m t.next ts later further

-- A run as such a call, by its steps. If no checkpoint raises the version, its events are those of the acknowledged ones that are accepted
-- in order from the first table on.
abbrev pub IsTicketRun : {D : Type 0} → ChildTrace → Mime → RunState D → List (CommandStep D) → Type 0
IsTicketRun t m old turns =
    (more : List Event) × (c : IsStageCall t old more (last_run_state old turns)) × HasTickets (last_run_state old turns).slots c.now
    × ((acknowledged : List Event) × AreAcknowledged (last_run_state old turns).spool.dead (tried_in_steps m old turns) acknowledged × AreTaken m old turns acknowledged more
    × (KeepVersion old.spool.state (commands_in turns) → more ≡ accepted old.spool.state acknowledged))
    × (old.spool.dead ≡ true → tried_in_steps m old turns ≡ [])

-- Such a run after which no child runs.
abbrev pub IsQuietRun : {D : Type 0} → ChildTrace → Mime → RunState D → List (CommandStep D) → Type 0
IsQuietRun t m old turns = (one : IsTicketRun t m old turns) × (one.1.now.running ≡ [])

-- ## The calls of one engine

pub data Call (D : Type 0) : Type 0 where
  round_call : Ran D → Call D
  tick_call : Ticked D → Call D
  run_call : List (CommandStep D) → Call D
  -- A command whose event is staged, and the settle of all staged events.
  stage_call : CommandStep D → Call D
  settle_call : RunState D → Call D

-- The run state after a call.
abbrev pub left_by : {D : Type 0} → RunState D → Call D → RunState D
left_by s (round_call r) = r.next
left_by s (tick_call t) = t.next
left_by s (run_call turns) = last_run_state s turns
left_by s (stage_call t) = t.next
left_by s (settle_call next) = next

-- Nothing is staged before and after a round, a tick or a run.
abbrev pub IsCall : {D : Type 0} → Setting D → RunState D → Call D → Type 0
IsCall v s (round_call r) = AreSettled s r.next × IsRan v s r
IsCall v s (tick_call t) = AreSettled s t.next × IsTicked v s t
IsCall v s (run_call turns) = AreSettled s (last_run_state s turns) × AreCommandSteps v s turns
IsCall v s (stage_call t) = IsStagedStep v s t
IsCall v s (settle_call next) = SettlesTo v.device s next

-- Each call starts from the run state that the previous one left.
abbrev pub AreCalls : {D : Type 0} → Setting D → RunState D → List (Call D) → Type 0
AreCalls v s [] = Unit {0}
AreCalls v s (c ∷ cs) = IsCall v s c × AreCalls v (left_by s c) cs

-- The run state after the last call.
abbrev pub last_by : {D : Type 0} → RunState D → List (Call D) → RunState D
last_by s [] = s
last_by s (c ∷ cs) = last_by (left_by s c) cs

abbrev pub IsNoTick : {D : Type 0} → Call D → Type 0
IsNoTick (round_call r) = Unit {0}
IsNoTick (tick_call t) = ⊥
IsNoTick (run_call turns) = Unit {0}
IsNoTick (stage_call t) = Unit {0}
IsNoTick (settle_call next) = Unit {0}

abbrev pub HaveNoTicks : {D : Type 0} → List (Call D) → Type 0
HaveNoTicks [] = Unit {0}
HaveNoTicks (c ∷ cs) = IsNoTick c × HaveNoTicks cs

-- ## The inputs of their stages

-- The new orders in the trace, each with its child's answer: each first stage gets a document, and each later one the output of the stage
-- before it, in the same attempt.
pub record HaveRightInput (t : ChildTrace) (now : ChildTrace) : Type 0 where
  pub orders : List Placed
  pub added : now.orders ≡ t.orders ++ orders
  pub all : map (λ x. x.order) (answered t.starts t.finishes orders) ≡ map (λ p. p.order) orders
  -- No two of them are for the same stage of an attempt.
  pub once : AreOnce (keys_in orders)
  pub right : AreRight [] (answered t.starts t.finishes orders)

-- Among the new orders, each first stage gets the document of its job.
abbrev pub HandsDocuments : {D : Type 0} → Documents → RunState D → RunState D → Type 0
HandsDocuments documents old new = (t now : ChildTrace) (orders : List Placed) → old.told ≡ Some t → new.told ≡ Some now → now.orders ≡ t.orders ++ orders → HaveDocuments documents orders

-- The same in each of these steps, with the bytes that were sent before it.
abbrev pub StepsHandDocuments : {D : Type 0} → Mime → RunState D → Documents → List (CommandStep D) → Type 0
StepsHandDocuments m s documents [] = Unit {0}
StepsHandDocuments m s documents (t ∷ ts) = HandsDocuments documents s t.next × StepsHandDocuments m t.next (documents_left m s documents t) ts

abbrev pub CallHandsDocuments : {D : Type 0} → Mime → RunState D → Documents → Call D → Type 0
CallHandsDocuments m s documents (round_call r) = HandsDocuments documents s r.next
CallHandsDocuments m s documents (tick_call t) = HandsDocuments documents s t.next
CallHandsDocuments m s documents (run_call turns) = StepsHandDocuments m s documents turns
CallHandsDocuments m s documents (stage_call t) = HandsDocuments documents s t.next
CallHandsDocuments m s documents (settle_call next) = HandsDocuments documents s next

-- The documents after a call.
abbrev pub documents_by : {D : Type 0} → Mime → RunState D → Documents → Call D → Documents
documents_by m s documents (round_call r) = documents
documents_by m s documents (tick_call t) = documents
documents_by m s documents (run_call turns) = last_documents m s documents turns
documents_by m s documents (stage_call t) = documents_left m s documents t
documents_by m s documents (settle_call next) = documents

-- The same in each of these calls.
abbrev pub CallsHandDocuments : {D : Type 0} → Mime → RunState D → Documents → List (Call D) → Type 0
CallsHandDocuments m s documents [] = Unit {0}
CallsHandDocuments m s documents (c ∷ cs) = CallHandsDocuments m s documents c × CallsHandDocuments m (left_by s c) (documents_by m s documents c) cs

-- ## After a crash in these calls

-- The image has the table after the first of a call's events, some or all. An image of a settle has the table with all staged events, or
-- one of an earlier call.
abbrev pub HasTableBy : {D : Type 0} → Mime → RunState D → Call D → List ℕ → Type 0
HasTableBy m s (round_call r) image = HasSomeOf s.spool.state r.tried image
HasTableBy m s (tick_call t) image = HasSomeOf s.spool.state t.tried image
HasTableBy m s (run_call turns) image = IsAlong m s turns image
HasTableBy m s (stage_call t) image = HasTable s.spool.state image
HasTableBy m s (settle_call next) image = HasTable s.spool.state image

-- The image has the table after the first of the events of these calls, some or all.
abbrev pub IsAlongCalls : {D : Type 0} → Mime → RunState D → List (Call D) → List ℕ → Type 0
IsAlongCalls m s [] image = HasTable s.spool.state image
IsAlongCalls m s (c ∷ cs) image = HasTableBy m s c image ⊎ IsAlongCalls m (left_by s c) cs image

-- The same with these documents and the bytes that the events sent.
abbrev pub HasWholeBy : {D : Type 0} → Mime → RunState D → Documents → Call D → List ℕ → Type 0
HasWholeBy m s documents (round_call r) image = HasSomeWhole s.spool.state documents r.tried image
HasWholeBy m s documents (tick_call t) image = HasSomeWhole s.spool.state documents t.tried image
HasWholeBy m s documents (run_call turns) image = IsWholeAlong m s documents turns image
HasWholeBy m s documents (stage_call t) image = HasWhole s.spool.state documents image
HasWholeBy m s documents (settle_call next) image = HasWhole s.spool.state documents image

abbrev pub IsWholeAlongCalls : {D : Type 0} → Mime → RunState D → Documents → List (Call D) → List ℕ → Type 0
IsWholeAlongCalls m s documents [] image = HasWhole s.spool.state documents image
IsWholeAlongCalls m s documents (c ∷ cs) image = HasWholeBy m s documents c image ⊎ IsWholeAlongCalls m (left_by s c) (documents_by m s documents c) cs image

-- The documents after these calls.
abbrev pub last_documents_by : {D : Type 0} → Mime → RunState D → Documents → List (Call D) → Documents
last_documents_by m s documents [] = documents
last_documents_by m s documents (c ∷ cs) = last_documents_by m (left_by s c) (documents_by m s documents c) cs

-- ## A batch

-- These commands were staged, each on the run state that the previous one left.
abbrev pub AreStagedSteps : {D : Type 0} → Setting D → RunState D → List (CommandStep D) → Type 0
AreStagedSteps v s [] = Unit {0}
AreStagedSteps v s (t ∷ ts) = IsStagedStep v s t × AreStagedSteps v t.next ts
