-- Runs that keep the reserve: each command is refused, or the engine executes it.
use Rattle.std.specs.Prelude.{◌≡◌, ◌⊎◌, ℕ, true, false, cond, List, [], ◌∷◌, ◌++◌, Option, Result, OnOk}
use Rattle.command_lines.specs.Text.{commands_of}
use Rattle.command_lines.specs.PendingCommands.{Pending, Leads, to_come}
use Rattle.command_lines.specs.declared.command.Command.{Command}
use Rattle.print_rounds.specs.RunStates.{RunState}
use Rattle.spool_disk.specs.Disk.{DiskView}
use Rattle.spool_engine.specs.EventSteps.{Setting, setting, IsKept}
use Rattle.spool_engine.specs.EngineRuns.{AreFirst, CommandStep, Engine, IsCommandStep, Tells, Wrote, commands_in, last_run_state}
use Rattle.spool_engine.specs.declared.fault.RunFault.{RunFault}
use Rattle.engine_reserve.specs.CommandRoom.{command_cost, full_text, takes_reserve}

-- The setting of an engine's steps.
abbrev pub setting_of : {D : Type 0} → DiskView D → Engine D → Setting D
setting_of device e = setting device e.mime e.place

-- ## Steps

-- A command that would take room from the reserve gets this reply, and nothing changes.
pub record IsRefusedStep {D : Type 0} (area : ℕ) (s : RunState D) (t : CommandStep D) : Type 0 where
  pub is : takes_reserve area s (command_cost t.command) ≡ true
  pub text : t.text ≡ full_text
  pub same : t.next ≡ s

-- For any other command the engine takes its step.
pub record IsLetInStep {D : Type 0} (v : Setting D) (area : ℕ) (s : RunState D) (t : CommandStep D) : Type 0 where
  pub is : takes_reserve area s (command_cost t.command) ≡ false
  pub step : IsCommandStep v s t

abbrev pub IsReservedStep : {D : Type 0} → Setting D → ℕ → RunState D → CommandStep D → Type 0
IsReservedStep v area s t = IsRefusedStep area s t ⊎ IsLetInStep v area s t

-- Each step starts from the run state that the previous one left.
abbrev pub AreReservedSteps : {D : Type 0} → Setting D → ℕ → RunState D → List (CommandStep D) → Type 0
AreReservedSteps v area s [] = Unit {0}
AreReservedSteps v area s (t ∷ ts) = IsReservedStep v area s t × AreReservedSteps v area t.next ts

-- The steps of the engine: those of the commands that are not refused.
abbrev pub let_in : {D : Type 0} → ℕ → RunState D → List (CommandStep D) → List (CommandStep D)
let_in area s [] = []
let_in area s (t ∷ ts) = cond (takes_reserve area s (command_cost t.command)) (let_in area t.next ts) (t ∷ let_in area t.next ts)

-- ## A run

-- A run over a text: the commands of the text, or after a fault the first of them, each with its step, and the bytes that were written.
pub record IsReservedRun {D : Type 0} (v : Setting D) (area : ℕ) (known : Option (List ℕ)) (s : RunState D) (text : List ℕ) (turns : List (CommandStep D)) (s' : RunState D) (result : Result (Unit {0}) RunFault) (old new : Option (List ℕ)) : Type 0 where
  pub tells : Tells known text
  pub begins : IsKept v.device s.spool
  pub legal : AreReservedSteps v area s turns
  pub last : last_run_state s turns ≡ s'
  pub first : AreFirst (commands_in turns) (commands_of text)
  pub all : OnOk result (commands_in turns ≡ commands_of text)
  pub wrote : Wrote result old new turns

-- ## Parts of a run

-- The steps start from one run state and end in the other.
pub record LeadReserved {D : Type 0} (v : Setting D) (area : ℕ) (s : RunState D) (turns : List (CommandStep D)) (s' : RunState D) : Type 0 where
  pub legal : AreReservedSteps v area s turns
  pub last : last_run_state s turns ≡ s'

-- A step of this command, before its reply is written.
pub record TakesReservedStep {D : Type 0} (v : Setting D) (area : ℕ) (s : RunState D) (c : Command) (t : CommandStep D) (s' : RunState D) : Type 0 where
  pub legal : IsReservedStep v area s t
  pub command : t.command ≡ c
  pub next : t.next ≡ s'

-- The one step of a command, and the bytes that were written of its reply.
pub record ServesOne {D : Type 0} (v : Setting D) (area : ℕ) (s : RunState D) (c : Command) (t : CommandStep D) (s' : RunState D) (result : Result (Unit {0}) RunFault) (old new : Option (List ℕ)) : Type 0 where
  pub takes : TakesReservedStep v area s c t s'
  pub wrote : Wrote result old new (t ∷ [])

-- The steps of the commands that the reader of commands yields between two of its states.
pub record ServesWhole {D : Type 0} (v : Setting D) (area : ℕ) (s : RunState D) (p : Pending) (turns : List (CommandStep D)) (s' : RunState D) (p' : Pending) (result : Result (Unit {0}) RunFault) (old new : Option (List ℕ)) : Type 0 where
  pub lead : LeadReserved v area s turns s'
  pub commands : Leads p (commands_in turns) p'
  pub wrote : Wrote result old new turns

-- The same for a piece, which after a fault may not have been fed.
pub record ServesPiece {D : Type 0} (v : Setting D) (area : ℕ) (piece : List ℕ) (s : RunState D) (p : Pending) (turns : List (CommandStep D)) (s' : RunState D) (p' : Pending) (result : Result (Unit {0}) RunFault) (old new : Option (List ℕ)) : Type 0 where
  pub lead : LeadReserved v area s turns s'
  pub commands : (more : List ℕ) → AreFirst (commands_in turns) (to_come p (piece ++ more))
  pub on_ok : OnOk result ((more : List ℕ) → to_come p (piece ++ more) ≡ commands_in turns ++ to_come p' more)
  pub wrote : Wrote result old new turns

-- The same at the end of the text, with these commands still to come.
pub record ServesEnd {D : Type 0} (v : Setting D) (area : ℕ) (s : RunState D) (p : Pending) (turns : List (CommandStep D)) (s' : RunState D) (rest : List Command) (result : Result (Unit {0}) RunFault) (old new : Option (List ℕ)) : Type 0 where
  pub lead : LeadReserved v area s turns s'
  pub commands : to_come p [] ≡ commands_in turns ++ rest
  pub wrote : Wrote result old new turns
