-- Rounds of an engine, also if something failed.
use Rattle.std.specs.Prelude.{◌≡◌, ◌≤◌, ◌↔◌, ◌⊎◌, ℕ, zero, suc, Bool, true, false, List, [], ◌∷◌, codes, length, map, IsSome, Some, Result, Ok, Err}
use Rattle.spool_types.specs.declared.event.Event.{Event}
use Rattle.filter_args.specs.declared.place.Place.{Place}
use Rattle.spool_disk.specs.Disk.{DiskView, LeavesOnly}
use Rattle.child_pipeline.specs.Tickets.{HasTickets}
use Rattle.child_pipeline.specs.ChildTraces.{ChildTrace}
use Rattle.command_lines.specs.Replies.{rounded_line, drained_line}
use Rattle.print_rounds.specs.RunStates.{RunState, AreHanded}
use Rattle.print_rounds.specs.Finished.{EachFinishedOnce, HasNoneRunning}
use Rattle.print_rounds.specs.Rounds.{HasSomeOf, HasSomeWhole, LeavesDocuments, IsUnbegun, IsRoundOf, IsRoundBy, tried_in}
use Rattle.print_rounds.specs.RoundTicks.{AreFinishings, Finishing, IsFinishedOff, running_jobs}
use Rattle.print_rounds.specs.declared.outcome.Round.{Round}
use Rattle.print_rounds.specs.declared.outcome.RoundFault.{RoundFault}
use Rattle.print_rounds.specs.declared.outcome.RoundFault.TheVariants as faults
use Rattle.spool_engine.specs.EventSteps.{Setting, IsKept}
use Rattle.spool_engine.specs.Script.{Meaning, says, asks, lists, runs, is_idle}

-- Each child that ran was waited for. Its finish is stored in its slot, and no event was applied.
pub record IsSettled {D : Type 0} (old settled : RunState D) : Type 0 where
  pub spool : settled.spool ≡ old.spool
  pub steps : (fs : List Finishing) × AreFinishings old.slots old.told fs settled.slots settled.told × (map (λ f. f.job) fs ≡ running_jobs old.slots)
  pub rest : HasNoneRunning settled.slots
  -- If the children report, each child that ran has been finished once.
  pub finished : (t : ChildTrace) → old.told ≡ Some t → HasTickets old.slots t → IsFinishedOff t settled.told
  -- If no child ran, nothing has changed.
  pub same : HasNoneRunning old.slots → settled ≡ old

-- A round: its run state once no child runs, the run state after it, its result, the events that were tried in it, and the document of each
-- job as it was read in it.
pub record Ran (D : Type 0) : Type 0 where
  pub settled : RunState D
  pub next : RunState D
  pub result : Result Round RoundFault
  pub tried : List Event
  pub documents : ℕ → List ℕ

-- The events that were tried in a round: the acknowledged ones, followed by the current one if the device failed. A round that did
-- nothing tried none. Each first stage got the document that was read.
abbrev pub IsRoundWith : {D : Type 0} → DiskView D → Place → RunState D → Bool → Ran D → Type 0
IsRoundWith device place old true r = IsRoundBy device place old true r.next r.result × (r.tried ≡ [])
IsRoundWith device place old false r =
    (IsUnbegun old r.next r.result × (r.tried ≡ []))
    ⊎ ((made : IsRoundOf device place old r.next r.result) × (r.tried ≡ tried_in old made.steps) × AreHanded r.documents made.steps.launchings)

-- A round with its children. It waits for the children that ran before it. Whatever failed, each child that it started is finished once, so
-- none runs after it. Unless the device had failed before, a crash at any moment of the round leaves the table after the first of the
-- events that were tried, some or all.
pub record IsRan {D : Type 0} (v : Setting D) (old : RunState D) (r : Ran D) : Type 0 where
  pub settles : IsSettled old r.settled
  pub round : IsRoundWith v.device v.place r.settled r.settled.spool.dead r
  pub finished : (t : ChildTrace) → r.settled.told ≡ Some t → t.running ≡ [] → (js : List ℕ) × EachFinishedOnce t r.next.told js
  pub rest : HasNoneRunning r.next.slots
  pub counted : v.device.failures old.spool.disk ≤ v.device.failures r.next.spool.disk
  pub told : IsSome (v.device.bytes r.next.spool.disk) ↔ IsSome (v.device.bytes old.spool.disk)
  pub crash : old.spool.dead ≡ false → IsSome (v.device.bytes old.spool.disk) →
      LeavesOnly v.device old.spool.disk r.next.spool.disk (HasSomeOf old.spool.state r.tried)
  pub kept : IsKept v.device r.next.spool
  -- The same with the documents, which a round does not change.
  pub whole : old.spool.dead ≡ false → IsSome (v.device.bytes old.spool.disk) → (documents : ℕ → List ℕ) → LeavesDocuments v.device documents old.spool →
      LeavesOnly v.device old.spool.disk r.next.spool.disk (HasSomeWhole old.spool.state documents r.tried)
  pub lasting : r.next.spool.dead ≡ false → IsSome (v.device.bytes old.spool.disk) → (documents : ℕ → List ℕ) → LeavesDocuments v.device documents old.spool →
      LeavesDocuments v.device documents r.next.spool

-- Rounds in order.
abbrev pub AreRan : {D : Type 0} → Setting D → RunState D → List (Ran D) → RunState D → Type 0
AreRan v old [] new = new ≡ old
AreRan v old (r ∷ rs) new = IsRan v old r × AreRan v r.next rs new

abbrev pub results_of : {D : Type 0} → List (Ran D) → List (Result Round RoundFault)
results_of rs = map (λ r. r.result) rs

-- ## The number of rounds

-- No round follows an idle one or one with a fault.
abbrev pub is_last : Result Round RoundFault → Bool
is_last (Ok round) = is_idle round
is_last (Err fault) = true

abbrev pub IsRest : Bool → List (Result Round RoundFault) → Type 0 → Type 0
IsRest true rs Rest = rs ≡ []
IsRest false rs Rest = Rest

-- These are all rounds: their number is the greatest allowed, or the last one ends them.
abbrev pub AreAll : ℕ → List (Result Round RoundFault) → Type 0
AreAll zero rs = rs ≡ []
AreAll (suc n) [] = ⊥
AreAll (suc n) (r ∷ rs) = IsRest (is_last r) rs (AreAll n rs)

-- ## Their replies

abbrev pub round_fault_line : RoundFault → List ℕ
round_fault_line faults.Dead = codes "error dead\n"
round_fault_line faults.Memory = codes "error memory\n"
round_fault_line faults.Full = codes "error full\n"
round_fault_line faults.Disk = codes "error disk\n"

-- The reply to one round, and the reply to a drain by the number of its rounds.
abbrev pub round_line : Result Round RoundFault → List ℕ
round_line (Ok round) = rounded_line round.started round.finished
round_line (Err fault) = round_fault_line fault

abbrev pub drain_line : Result ℕ RoundFault → List ℕ
drain_line (Ok run) = drained_line run
drain_line (Err fault) = round_fault_line fault

abbrev pub with_counts : Result Round RoundFault → Result (List Round) RoundFault → Result (List Round) RoundFault
with_counts (Ok round) (Ok rounds) = Ok (round ∷ rounds)
with_counts (Ok round) (Err fault) = Err fault
with_counts (Err fault) rest = Err fault

-- The counts of all rounds, or the first fault.
abbrev pub counts_in : List (Result Round RoundFault) → Result (List Round) RoundFault
counts_in [] = Ok []
counts_in (r ∷ rs) = with_counts r (counts_in rs)

-- The number of rounds, or the first fault.
abbrev pub rounds_run : Result (List Round) RoundFault → Result ℕ RoundFault
rounds_run (Ok rounds) = Ok (length rounds)
rounds_run (Err fault) = Err fault

abbrev pub line_told : (List Round → List ℕ) → Result (List Round) RoundFault → List ℕ
line_told line (Ok rounds) = line rounds
line_told line (Err fault) = round_fault_line fault

-- Rounds that were run, at most this many, and their reply.
pub record AreRun {D : Type 0} (v : Setting D) (most : ℕ) (line : List Round → List ℕ) (old : RunState D) (rs : List (Ran D)) (new : RunState D) (reply : List ℕ) : Type 0 where
  pub each : AreRan v old rs new
  pub all : AreAll most (results_of rs)
  pub text : reply ≡ line_told line (counts_in (results_of rs))

-- Only `round` and `drain` are answered with rounds.
abbrev pub AreRunBy : {D : Type 0} → Setting D → Meaning → RunState D → List (Ran D) → RunState D → List ℕ → Type 0
AreRunBy v (says text) old rs new reply = ⊥
AreRunBy v (asks e line) old rs new reply = ⊥
AreRunBy v lists old rs new reply = ⊥
AreRunBy v (runs most line) old rs new reply = AreRun v most line old rs new reply
