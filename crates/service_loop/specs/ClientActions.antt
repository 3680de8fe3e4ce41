-- The actions that the service did for a client, in order, and the text of each.
use Rattle.std.specs.Prelude.{◌≡◌, ◌⊎◌, ℕ, Bool, true, false, List, [], ◌∷◌, ◌++◌, Option, None, Some, codes}
use Rattle.spool_types.specs.State.{State}
use Rattle.spool_types.specs.declared.event.Closing.{Closing}
use Rattle.spool_types.specs.declared.event.Reply.TheVariants.{Done}
use Rattle.spool_types.specs.declared.event.Event.TheVariants.{Cancel, Close}
use Rattle.command_lines.specs.declared.command.Command.{Command}
use Rattle.command_lines.specs.declared.command.Command.TheVariants as commands
use Rattle.command_lines.specs.declared.reply.Answer.{Answer}
use Rattle.command_lines.specs.declared.reply.Answer.TheVariants.{Created}
use Rattle.command_lines.specs.declared.reply.Answer.TheVariants as answers_of
use Rattle.event_records.specs.NumberedChanges.{NumberedChanges}
use Rattle.event_records.specs.declared.seen.JobTimes.{JobTimes}
use Rattle.queue_sayings.specs.QueueSayings.{all_queues_shown}
use Rattle.service_texts.specs.FoundTexts.{found_text}
use Rattle.service_texts.specs.LeftJobs.{incoming_text}
use Rattle.service_texts.specs.Listings.{listed_text}
use Rattle.service_texts.specs.MeasuredTexts.{now_text, room_text}
use Rattle.service_texts.specs.Notices.{watch_text}
use Rattle.service_texts.specs.QueueShown.{IsShownQueue}
use Rattle.service_texts.specs.Shown.{has_other_size, has_settled, shown_job, told_job}
use Rattle.service_texts.specs.declared.left_jobs.LeftJob.{LeftJob}
use Rattle.service_texts.specs.declared.tokens.Tokens.{Tokens}
use Rattle.service_texts.specs.declared.own_words.OwnWord.{OwnWord}
use Rattle.service_texts.specs.declared.own_words.OwnWord.TheVariants.{Job, Wait, End, Stop, Watch, WatchFrom, Shutdown, Challenge, Prove, Queue, List as Listing, Find, Incoming, Room, Now, CloseAs, CloseAt, Printers, Why}
use Rattle.wait_causes.specs.WaitCauses.{IsWhy}
use Rattle.wait_causes.specs.declared.cause.ServiceFacts.{ServiceFacts}
use Rattle.client_reader.specs.declared.ask.Ask.{Ask}
use Rattle.client_reader.specs.declared.ask.Ask.TheVariants as asking
use Rattle.client_standing.specs.ClientStanding.{ClientStanding, with_job, with_proof}
use Rattle.client_standing.specs.declared.caller.Proved.{Proved}
use Rattle.client_roles.specs.RoleTable.{is_allowed}
use Rattle.print_rounds.specs.RunStates.{RunState}
use Rattle.spool_core.specs.OpenSpools.{OpenSpool}
use Rattle.spool_engine.specs.AnswerTexts.{answer_text}
use Rattle.spool_engine.specs.EventSteps.{Setting}
use Rattle.spool_engine.specs.EngineRounds.{round_line}
use Rattle.spool_engine.specs.EngineRuns.{CommandStep, is_round}
use Rattle.spool_engine.specs.EngineTicks.{Ticked}
use Rattle.spool_engine.specs.StagedSteps.{IsStagingStep, IsStagingTick, SettlesTo}
use Rattle.spool_engine.specs.Mime.{Mime}
use Rattle.spool_engine.specs.Script.{closing_as, closing_line}
use Rattle.service_loop.specs.ConnectionViews.{ProofStep, named, examined}
use Rattle.service_rules.specs.Listeners.{may_listen}
use Rattle.service_rules.specs.declared.listening.Listening.{Listening}
use Rattle.service_loop.specs.ProofTexts.{busy_text, denied_text, offer_text, proof_text}
use Rattle.service_loop.specs.ShownAnswers.{shown_answer}
use Rattle.engine_reserve.specs.CommandRoom.{full_text}
use Rattle.service_loop.specs.TakenRoom.{is_reserved}

pub data Action (D : Type 0) : Type 0 where
  -- A command, answered by the engine. The text shows the answer to the client.
  answers : CommandStep D → Answer → List ℕ → Action D
  -- A round or a drain, answered by a tick with this text.
  ticks : Command → Ticked D → List ℕ → Action D
  -- A word of the service that means a command of the engine, answered with this text.
  applies : OwnWord → CommandStep D → List ℕ → Action D
  -- Any other word of the service, answered with this text.
  says : OwnWord → List ℕ → Action D
  -- The client may prove who it is by a folder of this path, or no proof is offered.
  offers : Option (List ℕ) → Action D
  -- The client has proved this, or nothing.
  proves : Option Proved → Action D
  -- A request that the roles do not allow. Nothing was done.
  denies : Ask → Action D
  -- A request that would take room from the reserve of the journal. Nothing was done.
  reserves : Ask → Action D
  -- A word that listens, while no more clients may. Nothing was done.
  turns_away : Listening → OwnWord → Action D
  -- The end of this job was reported with this text.
  ends : ℕ → List ℕ → Action D
  -- A change was sent without a request. This is never part of the client's turn.
  tells : List ℕ → Action D
  -- The staged events were settled: they became durable, or the device failed.
  settles : RunState D → Action D
  -- These bytes were written to its connection, while all events were durable.
  delivers : List ℕ → Action D

-- The request that an action answers.
abbrev pub asks_by : {D : Type 0} → Action D → List Ask
asks_by (answers t answer text) = asking.Command t.command ∷ []
asks_by (ticks command t text) = asking.Command command ∷ []
asks_by (applies word t text) = asking.Own word ∷ []
asks_by (says word text) = asking.Own word ∷ []
asks_by (offers path) = asking.Own Challenge ∷ []
asks_by (proves who) = asking.Own Prove ∷ []
asks_by (denies ask) = ask ∷ []
asks_by (reserves ask) = ask ∷ []
asks_by (turns_away l word) = asking.Own word ∷ []
asks_by (ends job text) = []
asks_by (tells text) = []
asks_by (settles next) = []
asks_by (delivers bytes) = []

-- The text that an action sent.
abbrev pub text_by : {D : Type 0} → Action D → List ℕ
text_by (answers t answer text) = text
text_by (ticks command t text) = text
text_by (applies word t text) = text
text_by (says word text) = text
text_by (offers path) = offer_text path
text_by (proves who) = proof_text who
text_by (denies ask) = denied_text
text_by (reserves ask) = full_text
text_by (turns_away l word) = busy_text
text_by (ends job text) = text
text_by (tells text) = text
text_by (settles next) = []
text_by (delivers bytes) = []

-- The bytes that an action wrote to the client's connection.
abbrev pub given_by : {D : Type 0} → Action D → List ℕ
given_by (delivers bytes) = bytes
given_by d = []

-- The step of a proof that an action made.
abbrev pub proofs_by : {D : Type 0} → Action D → List ProofStep
proofs_by (offers path) = named path ∷ []
proofs_by (proves who) = examined who ∷ []
proofs_by d = []

abbrev pub after_action : {D : Type 0} → RunState D → Action D → RunState D
after_action s (answers t answer text) = t.next
after_action s (ticks command t text) = t.next
after_action s (applies word t text) = t.next
after_action s (says word text) = s
after_action s (offers path) = s
after_action s (proves who) = s
after_action s (denies ask) = s
after_action s (reserves ask) = s
after_action s (turns_away l word) = s
after_action s (ends job text) = s
after_action s (tells text) = s
after_action s (settles next) = next
after_action s (delivers bytes) = s

-- All events of a spool are durable.
abbrev pub IsDurable : {D : Type 0} → OpenSpool D → Type 0
IsDurable spool = (spool.dead ≡ false) × (spool.held ≡ None)

-- ## The client

-- A client, as far as its actions depend on it: its rights, and the job that it waits for.
pub record ClientStatus : Type 0 where
  pub standing : ClientStanding
  pub waits : Option ℕ

-- A job that it created is its own.
abbrev pub with_answer : ClientStanding → Answer → ClientStanding
with_answer c (Created job) = with_job c job
with_answer c answer = c

abbrev pub standing_after : {D : Type 0} → ClientStanding → Action D → ClientStanding
standing_after c (answers t answer text) = with_answer c answer
standing_after c (proves who) = with_proof c who
standing_after c d = c

abbrev pub wait_after : {D : Type 0} → Option ℕ → Action D → Option ℕ
wait_after waits (says (Wait j) text) = Some j
wait_after waits (ends job text) = None
wait_after waits d = waits

abbrev pub status_after : {D : Type 0} → ClientStatus → Action D → ClientStatus
status_after c d = record { standing = standing_after c.standing d; waits = wait_after c.waits d }

-- ## An action

-- The roles allow each request that is answered, and a request is denied only if they do not.
abbrev pub IsByRole : {D : Type 0} → ClientStanding → State → Action D → Type 0
IsByRole c s (answers t answer text) = is_allowed c s (asking.Command t.command) ≡ true
IsByRole c s (ticks command t text) = is_allowed c s (asking.Command command) ≡ true
IsByRole c s (applies word t text) = is_allowed c s (asking.Own word) ≡ true
IsByRole c s (says word text) = is_allowed c s (asking.Own word) ≡ true
IsByRole c s (offers path) = is_allowed c s (asking.Own Challenge) ≡ true
IsByRole c s (proves who) = is_allowed c s (asking.Own Prove) ≡ true
IsByRole c s (denies ask) = is_allowed c s ask ≡ false
IsByRole c s (reserves ask) = is_allowed c s ask ≡ true
IsByRole c s (turns_away l word) = is_allowed c s (asking.Own word) ≡ true
IsByRole c s (ends job text) = Unit {0}
IsByRole c s (tells text) = Unit {0}
IsByRole c s (settles next) = Unit {0}
IsByRole c s (delivers bytes) = Unit {0}

-- The moment of the service. If the clock cannot be read, it is that of the table.
abbrev pub moment_of : Option ℕ → State → ℕ
moment_of None s = s.moment
moment_of (Some now) s = now

-- The answer to a word of the service that has no other action, over a table.
abbrev pub IsSaid : ClientStanding → State → OwnWord → List ℕ → Type 0
IsSaid c s (Job j) text = (times : ℕ → JobTimes) × (text ≡ shown_job c times s j)
IsSaid c s (Queue name) text = (changed : Option ℕ) × IsShownQueue c changed s name text
IsSaid c s (Listing selection) text = (times : ℕ → JobTimes) × (text ≡ listed_text c times selection s)
IsSaid c s (Find token) text = (tokens : Tokens) × (text ≡ found_text tokens s token)
IsSaid c s Incoming text = (now : ℕ) × (left : List LeftJob) × (text ≡ incoming_text now s left)
IsSaid c s Room text = (bytes : ℕ) × (text ≡ room_text bytes)
IsSaid c s Now text = (now : Option ℕ) × (text ≡ now_text (moment_of now s))
IsSaid c s Printers text = text ≡ all_queues_shown c s
IsSaid c s (Why j) text = (facts : ServiceFacts) × IsWhy facts s j text
IsSaid c s (Wait j) text = text ≡ []
IsSaid c s (End j) text = (text ≡ codes "ok\n") ⊎ (text ≡ codes "error job\n")
IsSaid c s Watch text = text ≡ codes "ok\n"
IsSaid c s Shutdown text = text ≡ codes "ok\n"
IsSaid c s (WatchFrom number) text = (changes : NumberedChanges) × (text ≡ watch_text c s changes number)
IsSaid c s (CloseAt j size name media) text = (has_other_size s j size ≡ true) × (text ≡ codes "error size\n")
IsSaid c s word text = ⊥

-- A word after which the client listens.
abbrev pub begins_to_listen : OwnWord → Bool
begins_to_listen (Wait j) = true
begins_to_listen Watch = true
begins_to_listen (WatchFrom number) = true
begins_to_listen word = false

-- The close of a job, as the type that the client gave or, if it gave none, as the detected type.
abbrev pub closing_command : Mime → State → ℕ → List ℕ → Option (List ℕ) → Command
closing_command m s j name None = commands.Close j name
closing_command m s j name (Some media) = commands.Apply (Close (closing_as m s j media))

-- The command that a word of the service means.
abbrev pub IsMeant : {D : Type 0} → Setting D → State → OwnWord → Command → Type 0
IsMeant v s (Stop j) command = command ≡ commands.Apply (Cancel j)
IsMeant v s (CloseAs j name media) command = command ≡ commands.Apply (Close (closing_as v.mime s j media))
IsMeant v s (CloseAt j size name media) command = (has_other_size s j size ≡ false) × (command ≡ closing_command v.mime s j name media)
IsMeant v s word command = ⊥

-- The text of a close as a type, by the engine's answer: that of `close` if it was accepted, otherwise that of the answer.
abbrev pub closed_answer : Closing → State → Answer → List ℕ
closed_answer closing s answers_of.Done = closing_line closing Done
closed_answer closing s answer = answer_text s answer

-- The text of a close as a type or, if the client gave none, that of `close`.
abbrev pub closing_text : Mime → State → State → ℕ → Option (List ℕ) → Answer → List ℕ
closing_text m s s' j None answer = answer_text s' answer
closing_text m s s' j (Some media) answer = closed_answer (closing_as m s j media) s' answer

-- The text of a word that means a command, over the table after the command, by the engine's answer.
abbrev pub applied_text : {D : Type 0} → Setting D → State → State → OwnWord → Answer → List ℕ
applied_text v s s' (CloseAs j name media) answer = closed_answer (closing_as v.mime s j media) s' answer
applied_text v s s' (CloseAt j size name media) answer = closing_text v.mime s s' j media answer
applied_text v s s' word answer = answer_text s' answer

-- It is a command step of the engine, with this answer.
pub record IsApplied {D : Type 0} (v : Setting D) (s : RunState D) (word : OwnWord) (t : CommandStep D) (text : List ℕ) : Type 0 where
  pub meant : IsMeant v s.spool.state word t.command
  pub turn : IsStagingStep v s t
  pub answer : Answer
  pub same : answer_text t.next.spool.state answer ≡ t.text
  pub told : text ≡ applied_text v s.spool.state t.next.spool.state word answer

-- The job has ended or does not exist, and the text reports this.
pub record IsEndReported (c : ClientStanding) (s : State) (job : ℕ) (text : List ℕ) : Type 0 where
  pub settled : has_settled s job ≡ true
  pub told : text ≡ told_job c s job

-- A round is answered by a tick, and the text is its counts.
pub record IsTickedFor {D : Type 0} (v : Setting D) (s : RunState D) (command : Command) (t : Ticked D) (text : List ℕ) : Type 0 where
  pub round : is_round command ≡ true
  pub tick : IsStagingTick v s t
  pub told : text ≡ round_line t.result

-- Any other command is a command step of the engine. The text shows its answer as far as the client may see it.
pub record IsServed {D : Type 0} (v : Setting D) (c : ClientStanding) (s : RunState D) (t : CommandStep D) (answer : Answer) (text : List ℕ) : Type 0 where
  pub command : is_round t.command ≡ false
  pub turn : IsStagingStep v s t
  pub same : answer_text t.next.spool.state answer ≡ t.text
  pub told : text ≡ shown_answer c t.next.spool.state answer

abbrev pub IsAction : {D : Type 0} → Setting D → ClientStanding → RunState D → Action D → Type 0
IsAction v c s (answers t answer text) = IsServed v c s t answer text
IsAction v c s (ticks command t text) = IsTickedFor v s command t text
IsAction v c s (applies word t text) = IsApplied v s word t text
IsAction v c s (says word text) = IsSaid c s.spool.state word text
IsAction v c s (offers path) = Unit {0}
IsAction v c s (proves who) = Unit {0}
IsAction v c s (denies ask) = Unit {0}
IsAction v c s (reserves ask) = (area : ℕ) × (is_reserved area s ask ≡ true)
IsAction v c s (turns_away l word) = (begins_to_listen word ≡ true) × (may_listen l ≡ false)
IsAction v c s (ends job text) = IsEndReported c s.spool.state job text
IsAction v c s (tells text) = ⊥
IsAction v c s (settles next) = SettlesTo v.device s next
IsAction v c s (delivers bytes) = IsDurable s.spool

-- Only the end of the job that the client waits for is reported. Until then no request of it is answered.
abbrev pub IsTimely : {D : Type 0} → Option ℕ → Action D → Type 0
IsTimely waits (ends job text) = waits ≡ Some job
IsTimely waits (settles next) = Unit {0}
IsTimely waits (delivers bytes) = Unit {0}
IsTimely waits d = waits ≡ None

-- An action for a client, by the roles.
pub record IsDone {D : Type 0} (v : Setting D) (s : RunState D) (c : ClientStatus) (d : Action D) : Type 0 where
  pub is : IsAction v c.standing s d
  pub role : IsByRole c.standing s.spool.state d
  pub timely : IsTimely c.waits d

-- Each action continues from the state that the previous ones left.
abbrev pub AreActions : {D : Type 0} → Setting D → RunState D → ClientStatus → List (Action D) → RunState D → ClientStatus → Type 0
AreActions v s c [] s' c' = (s' ≡ s) × (c' ≡ c)
AreActions v s c (d ∷ ds) s' c' = IsDone v s c d × AreActions v (after_action s d) (status_after c d) ds s' c'

-- The requests that were answered, in order.
abbrev pub asks_in : {D : Type 0} → List (Action D) → List Ask
asks_in [] = []
asks_in (d ∷ ds) = asks_by d ++ asks_in ds

-- The texts that were sent, in order.
abbrev pub texts_in : {D : Type 0} → List (Action D) → List ℕ
texts_in [] = []
texts_in (d ∷ ds) = text_by d ++ texts_in ds

-- The steps of proofs, in order.
abbrev pub proofs_in : {D : Type 0} → List (Action D) → List ProofStep
proofs_in [] = []
proofs_in (d ∷ ds) = proofs_by d ++ proofs_in ds

-- The bytes that were written to the client's connection, in order.
abbrev pub given_in : {D : Type 0} → List (Action D) → List ℕ
given_in [] = []
given_in (d ∷ ds) = given_by d ++ given_in ds

-- The rights of a client after these actions.
abbrev pub standing_after_all : {D : Type 0} → ClientStanding → List (Action D) → ClientStanding
standing_after_all c [] = c
standing_after_all c (d ∷ ds) = standing_after_all (standing_after c d) ds
