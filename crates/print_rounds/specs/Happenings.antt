-- The accepted events of a pass, as it reports them: each start of a job, and each end of a stage.
use Rattle.std.specs.Prelude.{◌≡◌, ◌≤◌, ◌⊎◌, ℕ, ◌+◌, Bool, true, false, List, [], ◌∷◌, ◌++◌, length, map, Option, Result, Err}
use Rattle.std.specs.List.{flat_map}
use Rattle.spool_disk.specs.Disk.{DiskView}
use Rattle.spool_types.specs.declared.event.Event.{Event}
use Rattle.spool_types.specs.declared.event.Event.TheVariants as events
use Rattle.filter_args.specs.declared.place.Place.{Place}
use Rattle.print_rounds.specs.RunStates.{RunState}
use Rattle.print_rounds.specs.Passes.{IsPassed}
use Rattle.print_rounds.specs.StageChecks.{idle_slots}
use Rattle.print_rounds.specs.Rounds.{IsUnbegun, events_in}
use Rattle.print_rounds.specs.Turns.{AreInTurn}
use Rattle.print_rounds.specs.RoundTicks.{IsTickOf}
use Rattle.print_rounds.specs.declared.start_room.StartRoom.{StartRoom}
use Rattle.print_rounds.specs.declared.start_room.TickLimits.{TickLimits}
use Rattle.print_rounds.specs.declared.happenings.Happening.{Happening}
use Rattle.print_rounds.specs.declared.happenings.Happening.TheVariants.{Started, Ended}
use Rattle.print_rounds.specs.declared.outcome.Round.{Round}
use Rattle.print_rounds.specs.declared.outcome.RoundFault.{RoundFault}
use Rattle.print_rounds.specs.declared.outcome.RoundFault.TheVariants as ends

-- An event of a pass by its kind and its job. A pass has no other events.
abbrev pub happening_of : Event → List Happening
happening_of (events.Start job) = Started job ∷ []
happening_of (events.Stage end) = Ended end.job ∷ []
happening_of e = []

abbrev pub happenings_of : List Event → List Happening
happenings_of es = flat_map happening_of es

-- These happenings, at most n, were appended to a list with this capacity, if it had room for n more.
abbrev pub HaveHappened : ℕ → ℕ → List Happening → List Happening → List Happening → Type 0
HaveHappened capacity n old new more = (length old + n ≤ capacity → new ≡ old ++ more) × (length new ≤ length old + n)

-- A pass whose accepted events, and whose queues that were to start a job, `Has` holds of. A pass that did nothing has none.
abbrev pub IsPassThat : {D : Type 0} → (List Event → List (List ℕ) → Type 0) → DiskView D → Place → Bool → Option StartRoom → RunState D → Bool → RunState D → Result Round RoundFault → Type 0
IsPassThat Has device place waits start_room old true new result = (result ≡ Err ends.Dead) × (new ≡ old) × Has [] []
IsPassThat Has device place waits start_room old false new result =
    (IsUnbegun old new result × Has [] [])
    ⊎ ((passed : IsPassed device place waits start_room old new result) × Has (events_in old passed.steps.parts) (map (λ t. t.queue) passed.steps.parts.startings))

-- A tick whose accepted events, and whose queues that were to start a job, `Has` holds of. A tick that did nothing has none.
abbrev pub IsTickWith : {D : Type 0} → (List Event → List (List ℕ) → Type 0) → DiskView D → Place → Option TickLimits → RunState D → Bool → RunState D → Result Round RoundFault → Type 0
IsTickWith Has device place limits old true new result = (result ≡ Err ends.Dead) × (new ≡ old) × Has [] []
IsTickWith Has device place limits old false new result =
    (IsUnbegun old new result × Has [] [])
    ⊎ ((made : IsTickOf device place limits old new result) × Has (events_in old made.steps.parts) (map (λ t. t.queue) made.steps.parts.startings))

-- The same of its accepted events alone.
abbrev pub IsTickThat : {D : Type 0} → (List Event → Type 0) → DiskView D → Place → Option TickLimits → RunState D → Bool → RunState D → Result Round RoundFault → Type 0
IsTickThat Has device place limits old dead new result = IsTickWith (λ events queues. Has events) device place limits old dead new result

-- A tick whose queues that were to start a job are in turn, from position `turn` on. `next` is the turn after it.
abbrev pub IsTickInTurn : {D : Type 0} → ℕ → ℕ → DiskView D → Place → Option TickLimits → RunState D → Bool → RunState D → Result Round RoundFault → Type 0
IsTickInTurn turn next device place limits old dead new result =
    IsTickWith (λ events queues. AreInTurn turn next old.spool.state (idle_slots old.spool.state old.slots) queues) device place limits old dead new result
