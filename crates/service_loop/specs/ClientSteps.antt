-- The effect of a client's turn, of a notice and of readiness on that client.
use Rattle.std.specs.Prelude.{◌≡◌, ◌⊎◌, ℕ, ◌≤◌, Bool, true, false, List, [], ◌∷◌, ◌++◌, drop, length, codes, ⊤, Option, None, Some}
use Rattle.std.specs.Io.KnownBytes.{Appends, append_known}
use Rattle.spool_disk.specs.Disk.{DiskView}
use Rattle.client_reader.specs.Asks.{asks_of}
use Rattle.client_reader.specs.AwaitedRequests.{Awaits}
use Rattle.client_reader.specs.declared.ask.Ask.{Ask}
use Rattle.client_reader.specs.declared.ask.Next.{Next}
use Rattle.client_reader.specs.declared.ask.Next.TheVariants as nexts
use Rattle.spool_engine.specs.EventSteps.{setting}
use Rattle.spool_engine.specs.EngineRuns.{Engine}
use Rattle.client_standing.specs.ClientStanding.{first_standing}
use Rattle.service_loop.specs.ClientActions.{Action, tells, ClientStatus, IsDone, AreActions, after_action, status_after, asks_by, asks_in, text_by, texts_in, proofs_by, proofs_in, given_in}
use Rattle.service_loop.specs.ConnectionViews.{ConnectionView, ProofStep, AddsProofs}
use Rattle.service_loop.specs.declared.client.Client.{Client}
use Rattle.service_loop.specs.declared.client.Disconnect.{Disconnect}
use Rattle.service_loop.specs.declared.client.Disconnect.TheVariants.{Memory}

-- It has taken no more bytes than its replies have.
abbrev pub IsWithin : {L : Type 0} → Client L → Type 0
IsWithin c = c.taken ≤ length c.replies.items

-- All texts sent to it so far, including the replies that it has not taken, if its connection reports the written bytes.
abbrev pub told_to : {L : Type 0} → ConnectionView L → Client L → Option (List ℕ)
told_to view c = append_known (view.contents c.connection) (drop c.taken c.replies.items)

-- These are the first of the awaited requests, and the rest is awaited now, if the connection reports the bytes that it will bring. It is
-- so whatever text may follow those bytes: no request is answered that its end leaves incomplete.
abbrev pub AsksFirst : Option (List ℕ) → (List ℕ → List Ask) → List Ask → Option (List ℕ) → (List ℕ → List Ask) → Type 0
AsksFirst None old asks known new = ⊤
AsksFirst (Some rest) old asks None new = ⊥
AsksFirst (Some rest) old asks (Some left) new = (more : List ℕ) → old (rest ++ more) ≡ asks ++ new (left ++ more)

-- The requests were the first of those awaited, each once.
abbrev pub Asks : {L : Type 0} → ConnectionView L → Client L → List Ask → Client L → Type 0
Asks view old asks new = (awaited : List ℕ → List Ask) → Awaits old.reader awaited →
    (left : List ℕ → List Ask) × Awaits new.reader left × AsksFirst (view.remaining old.connection) awaited asks (view.remaining new.connection) left

-- This text follows all that was sent to it before.
pub record IsSent {L : Type 0} (view : ConnectionView L) (old : Client L) (text : List ℕ) (new : Client L) : Type 0 where
  pub within : IsWithin new
  pub told : Appends (told_to view old) (told_to view new) text

-- A client made these requests, was sent this text, and made these steps of proofs. These bytes were written to its connection, of this text
-- or of earlier ones.
pub record GoesGiving {L : Type 0} (view : ConnectionView L) (old : Client L) (asks : List Ask) (text : List ℕ) (steps : List ProofStep) (given : List ℕ) (new : Client L) : Type 0 where
  pub asked : Asks view old asks new
  pub told : IsWithin old → IsSent view old text new
  pub proved : AddsProofs (view.proofs old.connection) (view.proofs new.connection) steps
  pub wrote : Appends (view.contents old.connection) (view.contents new.connection) given

-- A client made these requests, was sent this text, and made these steps of proofs. Nothing was written to its connection.
abbrev pub GoesProving : {L : Type 0} → ConnectionView L → Client L → List Ask → List ℕ → List ProofStep → Client L → Type 0
GoesProving view old asks text steps new = GoesGiving view old asks text steps [] new

-- A client made these requests, and was sent this text. Nothing was written to its connection.
abbrev pub Goes : {L : Type 0} → ConnectionView L → Client L → List Ask → List ℕ → Client L → Type 0
Goes view old asks text new = GoesProving view old asks text [] new

-- It made no request and was sent no further text. Some bytes of its replies were written to its connection.
abbrev pub Delivers : {L : Type 0} → ConnectionView L → Client L → Client L → Type 0
Delivers view old new = (given : List ℕ) × GoesGiving view old [] [] [] given new

-- The part of a client on which its actions depend.
abbrev pub status_of : {L : Type 0} → Client L → ClientStatus
status_of c = record { standing = c.standing; waits = c.waits }

-- A text was appended to its replies; nothing was read or taken.
pub record IsAdded {L : Type 0} (old : Client L) (text : List ℕ) (new : Client L) : Type 0 where
  pub connection : new.connection ≡ old.connection
  pub reader : new.reader ≡ old.reader
  pub taken : new.taken ≡ old.taken
  pub replies : new.replies.items ≡ old.replies.items ++ text

-- A client with this connection. Nothing was read from it, nothing sent to it and nothing proved by it.
pub record IsEntry {L : Type 0} (view : ConnectionView L) (given : L) (c : Client L) : Type 0 where
  pub connection : c.connection ≡ given
  pub standing : c.standing ≡ first_standing (view.rules given) (view.is_operators given)
  pub reader : Awaits c.reader asks_of
  pub taken : c.taken ≡ 0
  pub replies : c.replies.items ≡ []

-- Its request was answered by an action, whose text was appended.
pub record IsAnswered {D L : Type 0} (device : DiskView D) (view : ConnectionView L) (old : Engine D) (c : Client L) (ask : Ask) (new : Engine D) (c' : Client L) : Type 0 where
  pub mime : new.mime ≡ old.mime
  pub place : new.place ≡ old.place
  pub action : Action D
  pub asked : asks_by action ≡ ask ∷ []
  pub is : IsDone (setting device old.mime old.place) old.run_state (status_of c) action
  pub next : after_action old.run_state action ≡ new.run_state
  pub status : status_after (status_of c) action ≡ status_of c'
  pub told : GoesProving view c [] (text_by action) (proofs_by action) c'

-- These actions, and no others, were done for a client: they answer its requests, one for one, and it was sent their texts, in order. What was
-- written to its connection meanwhile was written while all events were durable.
pub record IsClientStep {D L : Type 0} (device : DiskView D) (view : ConnectionView L) (old : Engine D) (c : Client L) (done : List (Action D)) (new : Engine D) (c' : Client L) : Type 0 where
  pub mime : new.mime ≡ old.mime
  pub place : new.place ≡ old.place
  pub actions : AreActions (setting device old.mime old.place) old.run_state (status_of c) done new.run_state (status_of c')
  pub client : GoesGiving view c (asks_in done) (texts_in done) (proofs_in done) (given_in done) c'

-- The result of its reader: a request, or none yet.
abbrev pub GivesNext : {L : Type 0} → ConnectionView L → Client L → Next → Client L → Type 0
GivesNext view old (nexts.Asked ask) new = Goes view old (ask ∷ []) [] new
GivesNext view old nexts.Again new = Goes view old [] [] new
GivesNext view old nexts.Text new = Goes view old [] [] new

-- A notice sends nothing, or its text, or its text after the line `missed` if earlier notices were dropped.
abbrev pub IsNotified : List ℕ → List ℕ → Type 0
IsNotified text told = (told ≡ []) ⊎ (told ≡ text) ⊎ (told ≡ codes "missed\n" ++ text)

-- Whether a client was disconnected because memory ran out.
abbrev pub is_starved : Option Disconnect → Bool
is_starved (Some Memory) = true
is_starved disconnect = false

-- ## All events of a client

pub data ClientStep (D L : Type 0) : Type 0 where
  -- It had a turn, between these engines.
  turns : Engine D → List (Action D) → Engine D → Client L → ClientStep D L
  -- There was a notice, and it was sent this part of it.
  changes : List ℕ → List ℕ → Client L → ClientStep D L
  -- Its connection was ready.
  signs : Client L → ClientStep D L

abbrev pub client_after : {D L : Type 0} → ClientStep D L → Client L
client_after (turns old done new c) = c
client_after (changes text told c) = c
client_after (signs c) = c

abbrev pub actions_by : {D L : Type 0} → ClientStep D L → List (Action D)
actions_by (turns old done new c) = done
actions_by (changes text told c) = tells told ∷ []
actions_by (signs c) = []

-- The contracts of the loop state this of each event.
abbrev pub IsClientStepBy : {D L : Type 0} → DiskView D → ConnectionView L → Client L → ClientStep D L → Type 0
IsClientStepBy device view c (turns old done new c') = IsClientStep device view old c done new c'
IsClientStepBy device view c (changes text told c') = IsNotified text told × IsAdded c told c' × (status_of c' ≡ status_of c)
IsClientStepBy device view c (signs c') = Goes view c [] [] c' × (status_of c' ≡ status_of c)

-- Each is a step of the client that the previous one left; in between the engine serves others.
abbrev pub AreClientSteps : {D L : Type 0} → DiskView D → ConnectionView L → Client L → List (ClientStep D L) → Client L → Type 0
AreClientSteps device view c [] c' = c' ≡ c
AreClientSteps device view c (x ∷ xs) c' = IsClientStepBy device view c x × AreClientSteps device view (client_after x) xs c'

-- All actions that were done for it, in order.
abbrev pub actions_of : {D L : Type 0} → List (ClientStep D L) → List (Action D)
actions_of [] = []
actions_of (x ∷ xs) = actions_by x ++ actions_of xs

-- The bytes written to its connection, followed by the replies not taken, are the earlier texts and then this text.
pub record HasAll {L : Type 0} (view : ConnectionView L) (said text : List ℕ) (c : Client L) : Type 0 where
  pub written : List ℕ
  pub contents : view.contents c.connection ≡ Some written
  pub all : written ++ drop c.taken c.replies.items ≡ said ++ text
