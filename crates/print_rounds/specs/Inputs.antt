-- RightInput: the inputs of the stages of attempts, in a list of all orders with the answers of the children.
use Rattle.std.specs.Prelude.{◌≡◌, ◌⊎◌, ◌≤◌, ℕ, suc, List, [], ◌∷◌, ◌++◌, length, map, Option, None, Some, Result, Ok, Err}
use Rattle.std.specs.FinMap as finite
use Rattle.spool_types.specs.declared.effect.Exit.TheVariants.{Code}
use Rattle.spool_types.specs.Limits.{longest_document}
use Rattle.job_table.specs.Stages.{Key}
use Rattle.child_pipeline.specs.StageSlots.{Slots}
use Rattle.child_pipeline.specs.ChildTraces.{ChildTrace, first_finish, rest_of}
use Rattle.child_pipeline.specs.declared.order.ChildFault.{ChildFault}
use Rattle.child_pipeline.specs.declared.order.Finish.{Finish}
use Rattle.child_pipeline.specs.declared.order.Input.TheVariants.{Document, Bytes}
use Rattle.child_pipeline.specs.declared.order.Order.{Order}
use Rattle.child_pipeline.specs.declared.order.Placed.{Placed}
use Rattle.child_pipeline.specs.declared.runner.Progress.{Progress}
use Rattle.child_pipeline.specs.declared.runner.Progress.TheVariants.{Ready, Running, Ended}
use Rattle.child_pipeline.specs.declared.runner.Slot.{Slot}
use Rattle.print_rounds.specs.RunStates.{RunState, Launching, AreHanded}
use Rattle.print_rounds.specs.Finished.{HasNoneRunning}

-- ## Orders and their answers

-- An order and the finish of its child: None if the child could not be started or nothing is known of its end.
pub record AnsweredOrder : Type 0 where
  pub order : Order
  pub finish : Option Finish

-- Each order takes one answer of `start` and, if its child was started, one of `finish`, both in order.
abbrev pub answered : List (Result (Unit {0}) ChildFault) → List (Result Finish ChildFault) → List Placed → List AnsweredOrder
answered [] finishes orders = []
answered (Ok done ∷ starts) finishes [] = []
answered (Ok done ∷ starts) finishes (p ∷ ps) = record { order = p.order; finish = first_finish finishes } ∷ answered starts (rest_of finishes) ps
answered (Err fault ∷ starts) finishes [] = []
answered (Err fault ∷ starts) finishes (p ∷ ps) = record { order = p.order; finish = None } ∷ answered starts finishes ps

abbrev pub IsOneOf : List AnsweredOrder → AnsweredOrder → Type 0
IsOneOf [] x = ⊥
IsOneOf (y ∷ ys) x = (y ≡ x) ⊎ IsOneOf ys x

-- ## The input of a stage

-- The stage of the attempt that an order is for.
abbrev pub stage_of : Order → Key
stage_of o = record { job = o.job; attempt = o.attempt; stage = o.stage }

-- One of these orders is for that stage, and its child produced this output: it ended with 0, and the output is at most as long as a
-- document may be.
pub record HasGiven (orders : List AnsweredOrder) (k : Key) (output : List ℕ) : Type 0 where
  pub from : AnsweredOrder
  pub among : IsOneOf orders from
  pub key : stage_of from.order ≡ k
  pub finish : Finish
  pub ended : from.finish ≡ Some finish
  pub exit : finish.exit ≡ Code 0
  pub short : length finish.output ≤ longest_document
  pub whole : finish.output ≡ output

-- The order's input is the whole output of the previous stage in the same attempt.
pub record IsHandedOn (earlier : List AnsweredOrder) (o : Order) : Type 0 where
  pub stage : ℕ
  pub next : o.stage ≡ suc stage
  pub output : List ℕ
  pub given : HasGiven earlier (record { job = o.job; attempt = o.attempt; stage = stage }) output
  pub input : o.input ≡ Bytes output

-- The input of a first stage is a document, and that of a later stage the output of the previous one.
pub record IsRight (earlier : List AnsweredOrder) (o : Order) : Type 0 where
  pub first : o.stage ≡ 1 → (document : List ℕ) × (o.input ≡ Document document)
  pub later : ¬ (o.stage ≡ 1) → IsHandedOn earlier o

-- Each of these orders is right, after the earlier ones.
abbrev pub AreRight : List AnsweredOrder → List AnsweredOrder → Type 0
AreRight earlier [] = Unit {0}
AreRight earlier (x ∷ xs) = IsRight earlier x.order × AreRight (earlier ++ x ∷ []) xs

-- The input of each first stage is its job's document.
abbrev pub HaveDocuments : (ℕ → List ℕ) → List Placed → Type 0
HaveDocuments documents [] = Unit {0}
HaveDocuments documents (p ∷ ps) = (p.order.stage ≡ 1 → p.order.input ≡ Document (documents p.order.job)) × HaveDocuments documents ps

-- ## What slots retain

-- What a slot retains was produced by its own stage or, if its stage is not started yet, by the previous one. A first stage has no earlier
-- output.
abbrev pub IsKeptFrom : List AnsweredOrder → ℕ → Slot ℕ → Progress ℕ → Type 0
IsKeptFrom orders j slot (Ready None) = slot.stage ≡ 1
IsKeptFrom orders j slot (Ready (Some output)) = (n : ℕ) × (slot.stage ≡ suc (suc n)) × HasGiven orders (record { job = j; attempt = slot.attempt; stage = suc n }) output
IsKeptFrom orders j slot (Running number) = (n : ℕ) × (slot.stage ≡ suc n)
IsKeptFrom orders j slot (Ended finish) = (n : ℕ) × (slot.stage ≡ suc n) × (finish.exit ≡ Code 0 → HasGiven orders (record { job = j; attempt = slot.attempt; stage = slot.stage }) finish.output)

abbrev pub AreKeptFrom : List AnsweredOrder → Slots → Type 0
AreKeptFrom orders slots = (j : ℕ) (slot : Slot ℕ) → finite.get slots j ≡ Some slot → IsKeptFrom orders j slot slot.progress

-- ## A round

-- A round with this trace of the children before it: its orders with their answers, after the earlier ones.
pub record HandsOn {D : Type 0} (earlier : List AnsweredOrder) (t : ChildTrace) (launchings : List Launching) (new : RunState D) : Type 0 where
  pub now : ChildTrace
  pub tells : new.told ≡ Some now
  pub orders : List Placed
  pub added : now.orders ≡ t.orders ++ orders
  pub each : List AnsweredOrder
  pub all : map (λ x. x.order) each ≡ map (λ p. p.order) orders
  -- The answers that are left are those of the orders to come.
  pub answers : (more : List Placed) → answered t.starts t.finishes (orders ++ more) ≡ each ++ answered now.starts now.finishes more
  pub right : AreRight earlier each
  -- The input of each first stage is the document that was read.
  pub documents : (documents : ℕ → List ℕ) → AreHanded documents launchings → HaveDocuments documents orders
  pub kept : AreKeptFrom (earlier ++ each) new.slots
  pub rests : HasNoneRunning new.slots
