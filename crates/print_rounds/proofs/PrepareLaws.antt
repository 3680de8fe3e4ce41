-- The start of a job's stage, from its slot, its document and its child.
use Rattle.std.proofs.Common.{◌≡◌, ℕ, Bool, true, false, List, Option, Some, None, Result, Ok, Err, refl, sym, ap, subst, ◌∙◌, inl, inr}
use Rattle.std.specs.Prelude.{IfOk, OnErr}
use Rattle.std.specs.FinMap as finite
use Rattle.spool_types.specs.declared.rows.QueueRow.{QueueRow}
use Rattle.spool_types.specs.State.{State, Job, job_at, queue_at}
use Rattle.job_table.specs.DocumentLengths.{document_len}
use Rattle.filter_args.specs.declared.place.Place.{Place}
use Rattle.child_pipeline.specs.StageSlots.{Slots, IsDue, slot_in}
use Rattle.child_pipeline.specs.ChildTraces.{ChildTrace}
use Rattle.print_rounds.specs.Choice.{slots_for}
use Rattle.print_rounds.specs.RunStates.{IsToStart, IsToRest, IsInput, IsLaunch, given}
use Rattle.print_rounds.specs.Launches.{IsMade, IsUnmade, IsPrepared, IsUnprepared, IsStarted}
use Rattle.print_rounds.specs.declared.outcome.Launch.{Launch}
use Rattle.print_rounds.specs.declared.outcome.Launch.TheVariants.{Unlaunched, Launched, NoMemory, Disk, Dead}
use Rattle.print_rounds.proofs.LaunchLaws.{some_of}

module _ (s : State) (slots : Slots) (j : ℕ) where
  pub no_row : job_at s j ≡ None → IsToRest s slots j
  no_row absent r q own is = let there : job_at s j ≡ Some r = is.row in absurd (cc)

  pub no_queue : (r : Job) → job_at s j ≡ Some r → queue_at s r.queue ≡ None → IsToRest s slots j
  no_queue r there absent p q own is =
      let same : r ≡ p = some_of r p (sym there ∙ is.row) in
      let found : queue_at s r.queue ≡ Some q = ap (λ (x : Job). queue_at s x.queue) same ∙ is.queue in
      absurd (cc)

  pub not_due : (r : Job) → job_at s j ≡ Some r → slots_for slots r ≡ None → IsToRest s slots j
  not_due r there none p q own is =
      let same : r ≡ p = some_of r p (sym there ∙ is.row) in
      let due : slots_for slots r ≡ Some own = ap (slots_for slots) same ∙ is.due in
      absurd (cc)

  pub prepared : (r : Job) (q : QueueRow) → job_at s j ≡ Some r → queue_at s r.queue ≡ Some q → r.id ≡ j → (due : Bool) (new : Slots) → IsMade slots r due new → IsPrepared s slots j due new
  prepared r q row queue id true new made = (r, q, record { row = row; queue = queue; due = made.0 }, subst (λ i. IsDue (finite.get new i) r.phase) id made.1, id)
  prepared r q row queue id false new made = (not_due r row made.0, made.1)

  pub unprepared : (r : Job) (q : QueueRow) → job_at s j ≡ Some r → queue_at s r.queue ≡ Some q → (new : Slots) → IsUnmade slots r new → IsUnprepared s slots j new
  unprepared r q row queue new unmade = (r, q, unmade.own, record { row = row; queue = queue; due = unmade.due }, unmade.same)

-- The child of a stage that is prepared was started, or memory ran out.
pub launched_as : (place : Place) (s : State) (slots : Slots) (told : Option ChildTrace) (j : ℕ) (r : Job) (q : QueueRow) (own : Slots) (document : Option (List ℕ)) (l : Launch) (new : Slots) (told' : Option ChildTrace) → IsToStart s slots j r q own → IsInput (slot_in own r.id).progress (document_len r) document → IsStarted place told own r q (given document) l new told' → IsLaunch place s slots told j document l new told'
launched_as place s slots told j r q own document Unlaunched new told' start input started = absurd started
launched_as place s slots told j r q own document (Launched b) new told' start input started = (r, q, own, start, input, started)
launched_as place s slots told j r q own document NoMemory new told' start input (same, tells) = (r, q, own, start, inr same, tells)
launched_as place s slots told j r q own document Disk new told' start input started = absurd started
launched_as place s slots told j r q own document Dead new told' start input started = absurd started

pub if_ok : {X E : Type 0} {P Q : X → Type 0} (r : Result X E) → ((x : X) → P x → Q x) → IfOk r P → IfOk r Q
if_ok (Ok x) weaker holds = weaker x holds
if_ok (Err e) weaker holds = holds

pub on_err : {X E : Type 0} {A B : Type 0} (r : Result X E) → (A → B) → OnErr r A → OnErr r B
on_err (Ok x) weaker holds = holds
on_err (Err e) weaker holds = weaker holds

-- A launch that ran out of memory: for the slot, or after that.
pub unprepared_as : (place : Place) (s : State) (slots : Slots) (told : Option ChildTrace) (j : ℕ) (new : Slots) → IsUnprepared s slots j new → IsLaunch place s slots told j None NoMemory new told
unprepared_as place s slots told j new (r, q, own, start, same) = (r, q, own, start, inl same, refl)

pub prepared_as : (place : Place) (s : State) (slots : Slots) (told : Option ChildTrace) (j : ℕ) (new : Slots) → IsPrepared s slots j true new → IsLaunch place s slots told j None NoMemory new told
prepared_as place s slots told j new (r, q, start, due, id) = (r, q, new, start, inr refl, refl)

-- A launch during which the device failed.
pub broken_as : (place : Place) (s : State) (slots : Slots) (told : Option ChildTrace) (j : ℕ) (new : Slots) → IsPrepared s slots j true new → IsLaunch place s slots told j None Disk new told
broken_as place s slots told j new (r, q, start, due, id) = (r, q, new, start, refl, refl, refl)
