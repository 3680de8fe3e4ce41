-- The steps of a run, also if something failed.
use Rattle.std.specs.Prelude.{◌≡◌, ℕ, zero, suc, ◌<◌, ◌≤◌, ◌↔◌, ◌⊎◌, Bool, true, false, List, [], ◌∷◌, ◌++◌, take, length, map, ⊤, IsSome, Option, None, Some, Result, Ok, Err, OnOk}
use Rattle.std.specs.List.{flat_map}
use Rattle.std.specs.Result.{IsOk}
use Rattle.std.specs.Io.KnownBytes.{Appends}
use Rattle.spool_types.specs.declared.event.Event.{Event}
use Rattle.spool_types.specs.declared.version.Version.TheVariants.{Two}
use Rattle.spool_types.specs.State.{State}
use Rattle.job_table.specs.EventFold.{after_all}
use Rattle.job_table.specs.TableVersions.{raised}
use Rattle.filter_args.specs.declared.place.Place.{Place}
use Rattle.spool_disk.specs.Disk.{LeavesOnly}
use Rattle.command_lines.specs.Text.{commands_of}
use Rattle.command_lines.specs.PendingCommands.{Pending, Leads, to_come}
use Rattle.command_lines.specs.declared.command.Command.{Command}
use Rattle.command_lines.specs.declared.command.Command.TheVariants as commands
use Rattle.spool_core.specs.Driving.{documents_after}
use Rattle.spool_core.specs.Image.{HasTable, HasWhole}
use Rattle.child_pipeline.specs.Tickets.{HasTickets}
use Rattle.child_pipeline.specs.ChildTraces.{ChildTrace}
use Rattle.print_rounds.specs.RunStates.{RunState}
use Rattle.spool_engine.specs.Mime.{Mime}
use Rattle.print_rounds.specs.Rounds.{HasSomeWhole, LeavesDocuments}
use Rattle.spool_engine.specs.EventSteps.{Setting, Outcome, served, EventStep, IsOutcome, IsReadFor, IsKept, HasSomeSent, HasTableIn, tried_as, is_checkpoint}
use Rattle.spool_engine.specs.EngineRounds.{Ran, AreRunBy, counts_in, results_of}
use Rattle.spool_engine.specs.Script.{Documents, Asked, ScriptState, meaning, event_of, withheld_line, withholds, script_text, script_events, run_script_state, asked_on, documents_on}
use Rattle.spool_engine.specs.declared.fault.RunFault.{RunFault}
use Rattle.spool_engine.specs.declared.fault.RunFault.TheVariants.{Read, Write, Memory}

-- An engine as its callers see it. `turn` is the position of the queue with which the next tick begins.
pub record Engine (D : Type 0) : Type 0 where
  pub mime : Mime
  pub place : Place
  pub run_state : RunState D
  pub turn : ℕ

-- The way a command was answered: with a text or after at most one event, by rounds, or as a withheld purge of a job whose child runs.
pub data How (D : Type 0) : Type 0 where
  answered : Outcome → How D
  ran : List (Ran D) → How D
  withheld : How D

-- A command, the document that was read to close a job, the way it was answered, its reply, and the run state after it.
pub record CommandStep (D : Type 0) : Type 0 where
  pub command : Command
  pub document : List ℕ
  pub how : How D
  pub text : List ℕ
  pub next : RunState D

-- The step as one over the spool alone.
abbrev pub event_step : {D : Type 0} → CommandStep D → Outcome → EventStep D
event_step t outcome = record { command = t.command; document = t.document; outcome = outcome; text = t.text; next = t.next.spool }

-- The slots and the children's trace did not change.
pub record IsHeld {D : Type 0} (old new : RunState D) : Type 0 where
  pub slots : new.slots ≡ old.slots
  pub told : new.told ≡ old.told

-- A withheld purge gets this reply, and nothing changes.
pub record IsWithheld {D : Type 0} (s : RunState D) (t : CommandStep D) : Type 0 where
  pub is : withholds s.slots t.command ≡ true
  pub text : t.text ≡ withheld_line
  pub same : t.next ≡ s

-- A command without rounds runs no child.
abbrev pub IsHow : {D : Type 0} → Setting D → RunState D → CommandStep D → How D → Type 0
IsHow v s t (answered outcome) = IsOutcome v s.spool (event_step t outcome) outcome × IsHeld s t.next × (withholds s.slots t.command ≡ false)
IsHow v s t (ran rs) = AreRunBy v (meaning v.mime s.spool.state t.document t.command) s rs t.next t.text
IsHow v s t withheld = IsWithheld s t

-- The document that was read to close a job is the job's.
abbrev pub IsReadIn : {D : Type 0} → Setting D → RunState D → CommandStep D → How D → Type 0
IsReadIn v s t (answered outcome) = IsReadFor v s.spool t.document outcome t.command
IsReadIn v s t (ran rs) = Unit {0}
IsReadIn v s t withheld = Unit {0}

abbrev pub tried_by : {D : Type 0} → Option Event → How D → List Event
tried_by asked (answered outcome) = tried_as asked outcome
tried_by asked (ran rs) = flat_map (λ r. r.tried) rs
tried_by asked withheld = []

-- The events that were tried in a step.
abbrev pub tried_in : {D : Type 0} → Mime → RunState D → CommandStep D → List Event
tried_in m s t = tried_by (event_of m s.spool.state t.document t.command) t.how

-- The documents after a step: with the bytes that its event sends, if it was tried.
abbrev pub documents_by_how : {D : Type 0} → RunState D → Documents → Option Event → How D → Documents
documents_by_how s documents asked (answered outcome) = documents_after s.spool.state documents (tried_as asked outcome)
documents_by_how s documents asked (ran rs) = documents
documents_by_how s documents asked withheld = documents

abbrev pub documents_left : {D : Type 0} → Mime → RunState D → Documents → CommandStep D → Documents
documents_left m s documents t = documents_by_how s documents (event_of m s.spool.state t.document t.command) t.how

-- The image has the table after the first of the events that were tried, some or all, and the documents with the bytes that they sent.
abbrev pub HasSomeBy : {D : Type 0} → RunState D → Documents → Option Event → How D → List ℕ → Type 0
HasSomeBy s documents asked (answered outcome) image = HasSomeSent s.spool.state documents (tried_as asked outcome) image
HasSomeBy s documents asked (ran rs) image = HasSomeWhole s.spool.state documents (tried_by asked (ran rs)) image
HasSomeBy s documents asked withheld image = HasWhole s.spool.state documents image

-- The same, and for a checkpoint also the table in the newest version.
abbrev pub HasSomeIn : {D : Type 0} → Mime → RunState D → Documents → CommandStep D → List ℕ → Type 0
HasSomeIn m s documents t image =
    HasSomeBy s documents (event_of m s.spool.state t.document t.command) t.how image ⊎ ((is_checkpoint t.command ≡ true) × HasWhole (raised s.spool.state) documents image)

-- A step on the run state that it found. Unless the device had failed before, a crash at any moment of it leaves the table after the first
-- of the events that were tried in it, some or all. For a command of one event this is the table before it or the one after it, and for a
-- checkpoint the table in its version or in the newest. If the device has not failed by the end of the step, a crash after it leaves the
-- table that is shown. The same holds for the documents.
pub record IsCommandStep {D : Type 0} (v : Setting D) (s : RunState D) (t : CommandStep D) : Type 0 where
  pub how : IsHow v s t t.how
  pub read : IsReadIn v s t t.how
  pub counted : v.device.failures s.spool.disk ≤ v.device.failures t.next.spool.disk
  pub told : IsSome (v.device.bytes t.next.spool.disk) ↔ IsSome (v.device.bytes s.spool.disk)
  pub crash : s.spool.dead ≡ false → IsSome (v.device.bytes s.spool.disk) →
      LeavesOnly v.device s.spool.disk t.next.spool.disk (HasTableIn t.command s.spool.state (tried_in v.mime s t))
  pub whole : s.spool.dead ≡ false → IsSome (v.device.bytes s.spool.disk) → (documents : Documents) → LeavesDocuments v.device documents s.spool →
      LeavesOnly v.device s.spool.disk t.next.spool.disk (HasSomeIn v.mime s documents t)
  pub kept : IsKept v.device t.next.spool
  pub lasting : t.next.spool.dead ≡ false → IsSome (v.device.bytes s.spool.disk) → (documents : Documents) → LeavesDocuments v.device documents s.spool →
      LeavesDocuments v.device (documents_left v.mime s documents t) t.next.spool

-- Each step starts from the run state that the previous one left.
abbrev pub AreCommandSteps : {D : Type 0} → Setting D → RunState D → List (CommandStep D) → Type 0
AreCommandSteps v s [] = Unit {0}
AreCommandSteps v s (t ∷ ts) = IsCommandStep v s t × AreCommandSteps v t.next ts

abbrev pub last_run_state : {D : Type 0} → RunState D → List (CommandStep D) → RunState D
last_run_state s [] = s
last_run_state s (t ∷ ts) = last_run_state t.next ts

abbrev pub texts_of : {D : Type 0} → List (CommandStep D) → List ℕ
texts_of ts = flat_map (λ t. t.text) ts

abbrev pub commands_in : {D : Type 0} → List (CommandStep D) → List Command
commands_in ts = map (λ t. t.command) ts

-- Nothing failed in the command.
abbrev pub IsWell : {D : Type 0} → How D → Type 0
IsWell (answered outcome) = outcome ≡ served
IsWell (ran rs) = IsOk (counts_in (results_of rs))
IsWell withheld = Unit {0}

-- Nothing failed in any step.
abbrev pub AllServed : {D : Type 0} → List (CommandStep D) → Type 0
AllServed [] = Unit {0}
AllServed (t ∷ ts) = IsWell t.how × AllServed ts

-- The image has the table after the first of the events and checkpoints of these steps, some or all.
abbrev pub IsAlong : {D : Type 0} → Mime → RunState D → List (CommandStep D) → List ℕ → Type 0
IsAlong m s [] image = HasTable s.spool.state image
IsAlong m s (t ∷ ts) image = HasTableIn t.command s.spool.state (tried_in m s t) image ⊎ IsAlong m t.next ts image

-- The same with these documents and the bytes that the events sent.
abbrev pub IsWholeAlong : {D : Type 0} → Mime → RunState D → Documents → List (CommandStep D) → List ℕ → Type 0
IsWholeAlong m s documents [] image = HasWhole s.spool.state documents image
IsWholeAlong m s documents (t ∷ ts) image = HasSomeIn m s documents t image ⊎ IsWholeAlong m t.next (documents_left m s documents t) ts image

-- The documents after these steps.
abbrev pub last_documents : {D : Type 0} → Mime → RunState D → Documents → List (CommandStep D) → Documents
last_documents m s documents [] = documents
last_documents m s documents (t ∷ ts) = last_documents m t.next (documents_left m s documents t) ts

-- All replies except the last, and a part of the last but not all of it.
pub record WroteUpTo {D : Type 0} (old new : Option (List ℕ)) (turns : List (CommandStep D)) : Type 0 where
  pub told : List (CommandStep D)
  pub cut : CommandStep D
  pub split : turns ≡ told ++ cut ∷ []
  pub count : ℕ
  pub short : count < length cut.text
  pub front : Appends old new (texts_of told ++ take count cut.text)

-- All replies, or all except the last, which ran out of memory.
pub record WroteBefore {D : Type 0} (old new : Option (List ℕ)) (turns : List (CommandStep D)) : Type 0 where
  pub told : List (CommandStep D)
  pub untold : List (CommandStep D)
  pub split : turns ≡ told ++ untold
  pub at_most_one : length untold ≤ 1
  pub wrote : Appends old new (texts_of told)

-- The bytes that were written of the replies, by the result of the run.
abbrev pub Wrote : {D : Type 0} → Result (Unit {0}) RunFault → Option (List ℕ) → Option (List ℕ) → List (CommandStep D) → Type 0
Wrote (Ok done) old new turns = Appends old new (texts_of turns)
Wrote (Err Read) old new turns = Appends old new (texts_of turns)
Wrote (Err Write) old new turns = WroteUpTo old new turns
Wrote (Err Memory) old new turns = WroteBefore old new turns

-- The steps start from one run state and end in the other.
pub record Lead {D : Type 0} (v : Setting D) (s : RunState D) (turns : List (CommandStep D)) (s' : RunState D) : Type 0 where
  pub legal : AreCommandSteps v s turns
  pub last : last_run_state s turns ≡ s'

-- A step of this command, before its reply is written.
pub record TakesStep {D : Type 0} (v : Setting D) (s : RunState D) (c : Command) (t : CommandStep D) (s' : RunState D) : Type 0 where
  pub legal : IsCommandStep v s t
  pub command : t.command ≡ c
  pub next : t.next ≡ s'

-- The one step of a command.
pub record Serves {D : Type 0} (v : Setting D) (s : RunState D) (c : Command) (t : CommandStep D) (s' : RunState D) (result : Result (Unit {0}) RunFault) (old new : Option (List ℕ)) : Type 0 where
  pub legal : IsCommandStep v s t
  pub command : t.command ≡ c
  pub next : t.next ≡ s'
  pub wrote : Wrote result old new (t ∷ [])

-- The commands are the first of the others.
abbrev pub AreFirst : List Command → List Command → Type 0
AreFirst cs all = (rest : List Command) × (all ≡ cs ++ rest)

-- The steps of the commands that the reader of commands yields between two of its states.
pub record Drains {D : Type 0} (v : Setting D) (s : RunState D) (p : Pending) (turns : List (CommandStep D)) (s' : RunState D) (p' : Pending) (result : Result (Unit {0}) RunFault) (old new : Option (List ℕ)) : Type 0 where
  pub lead : Lead v s turns s'
  pub commands : Leads p (commands_in turns) p'
  pub wrote : Wrote result old new turns

-- The same for a piece, which after a fault may not have been fed.
pub record DrainsPiece {D : Type 0} (v : Setting D) (piece : List ℕ) (s : RunState D) (p : Pending) (turns : List (CommandStep D)) (s' : RunState D) (p' : Pending) (result : Result (Unit {0}) RunFault) (old new : Option (List ℕ)) : Type 0 where
  pub lead : Lead v s turns s'
  pub commands : (more : List ℕ) → AreFirst (commands_in turns) (to_come p (piece ++ more))
  pub on_ok : OnOk result ((more : List ℕ) → to_come p (piece ++ more) ≡ commands_in turns ++ to_come p' more)
  pub wrote : Wrote result old new turns

-- The same at the end of the text, with these commands still to come.
pub record DrainsEnd {D : Type 0} (v : Setting D) (s : RunState D) (p : Pending) (turns : List (CommandStep D)) (s' : RunState D) (rest : List Command) (result : Result (Unit {0}) RunFault) (old new : Option (List ℕ)) : Type 0 where
  pub lead : Lead v s turns s'
  pub commands : to_come p [] ≡ commands_in turns ++ rest
  pub wrote : Wrote result old new turns

-- The text is the rest of the reader, if the reader reports it.
abbrev pub Tells : Option (List ℕ) → List ℕ → Type 0
Tells None text = ⊤
Tells (Some known) text = known ≡ text

-- ## Runs without a failure

-- The documents as they were read in each of these rounds.
abbrev pub read_in : {D : Type 0} → List (Ran D) → ℕ → Documents
read_in [] k = λ j. []
read_in (r ∷ rs) zero = r.documents
read_in (r ∷ rs) (suc k) = read_in rs k

abbrev pub read_by : {D : Type 0} → List ℕ → How D → ℕ → Documents
read_by document (answered outcome) = λ k j. document
read_by document (ran rs) = read_in rs
read_by document withheld = λ k j. document

-- The commands, each with the documents that were read in its step.
abbrev pub asked_by : {D : Type 0} → CommandStep D → Asked
asked_by t = record { command = t.command; documents = read_by t.document t.how }

abbrev pub asked_of : {D : Type 0} → List (CommandStep D) → List Asked
asked_of ts = map asked_by ts

abbrev pub HasNoCheckpoints : List Command → Type 0
HasNoCheckpoints [] = Unit {0}
HasNoCheckpoints (c ∷ cs) = (is_checkpoint c ≡ false) × HasNoCheckpoints cs

-- No checkpoint raises the version: it is already the newest, or no command is a checkpoint.
abbrev pub KeepVersion : State → List Command → Type 0
KeepVersion s cs = (s.version ≡ Two) ⊎ HasNoCheckpoints cs

-- Exactly Script's replies were written, and the table is Script's. If no checkpoint raises the version in between, it is the fold of
-- Script's events.
pub record IsScript {D : Type 0} (v : Setting D) (x : ScriptState) (asked : List Asked) (s' : RunState D) (old new : Option (List ℕ)) : Type 0 where
  pub wrote : Appends old new (script_text v.mime v.place x asked)
  pub table : s'.spool.state ≡ (run_script_state v.mime v.place x asked).state
  pub fold : KeepVersion x.state (map (λ a. a.command) asked) → s'.spool.state ≡ after_all x.state (script_events v.mime v.place x asked)

abbrev pub is_round : Command → Bool
is_round commands.Round = true
is_round (commands.Drain most) = true
is_round c = false

abbrev pub HasNoRounds : List Command → Type 0
HasNoRounds [] = Unit {0}
HasNoRounds (c ∷ cs) = (is_round c ≡ false) × HasNoRounds cs

-- The run state as a ScriptState, with this trace.
abbrev pub script_state_with : {D : Type 0} → RunState D → ChildTrace → ScriptState
script_state_with s told = record { state = s.spool.state; slots = s.slots; told = told }

-- The ScriptState is that of the run state, and the children report its trace.
pub record IsScriptState {D : Type 0} (s : RunState D) (x : ScriptState) : Type 0 where
  pub state : s.spool.state ≡ x.state
  pub slots : s.slots ≡ x.slots
  pub told : s.told ≡ Some x.told

-- The run is Script of these commands: without rounds for any children, and with rounds if the children report and the slots have the
-- tickets of the running ones. Then the new orders and the slots are Script's too.
pub record IsExact {D : Type 0} (v : Setting D) (s : RunState D) (text : List ℕ) (asked : ScriptState → List Asked) (s' : RunState D) (old new : Option (List ℕ)) : Type 0 where
  pub plain : HasNoRounds (commands_of text) → (t : ChildTrace) → IsScript v (script_state_with s t) (asked (script_state_with s t)) s' old new
  pub telling : (t : ChildTrace) → s.told ≡ Some t → HasTickets s.slots t →
      IsScript v (script_state_with s t) (asked (script_state_with s t)) s' old new × IsScriptState s' (run_script_state v.mime v.place (script_state_with s t) (asked (script_state_with s t)))

-- If the disk reports its bytes, a crash leaves these documents, and the device does not fail, then the run is Script of a text with these
-- documents and the bytes that the text sends. A crash after it leaves the documents that Script leaves.
pub record IsExactWith {D : Type 0} (v : Setting D) (s : RunState D) (text : List ℕ) (documents : Documents) (s' : RunState D) (old new : Option (List ℕ)) : Type 0 where
  pub script : IsExact v s text (λ x. asked_on v.mime v.place x documents (commands_of text)) s' old new
  pub lasting : (t : ChildTrace) → HasNoRounds (commands_of text) ⊎ ((s.told ≡ Some t) × HasTickets s.slots t) →
      LeavesDocuments v.device (documents_on v.mime v.place (script_state_with s t) documents (commands_of text)) s'.spool

-- A run over a text: the commands of the text, or after a fault the first of them, each with its step, and the bytes that were written.
pub record IsRun {D : Type 0} (v : Setting D) (known : Option (List ℕ)) (s : RunState D) (text : List ℕ) (turns : List (CommandStep D)) (s' : RunState D) (result : Result (Unit {0}) RunFault) (old new : Option (List ℕ)) : Type 0 where
  pub tells : Tells known text
  pub begins : IsKept v.device s.spool
  pub lead : Lead v s turns s'
  pub first : AreFirst (commands_in turns) (commands_of text)
  pub all : OnOk result (commands_in turns ≡ commands_of text)
  -- If nothing failed, the run is Script, with the documents that were read in each step.
  pub exact : OnOk result (AllServed turns → IsExact v s text (λ x. asked_of turns) s' old new)
  -- The same with the documents that the disk had, if it reports its bytes.
  pub exact_with : OnOk result (AllServed turns → s'.spool.dead ≡ false → IsSome (v.device.bytes s.spool.disk) → (documents : Documents) → LeavesDocuments v.device documents s.spool →
      IsExactWith v s text documents s' old new)
  pub wrote : Wrote result old new turns
