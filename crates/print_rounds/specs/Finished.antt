-- Each child that a round starts is finished in it once, and every start comes before the first finish.
use Rattle.std.specs.Prelude.{◌≡◌, ℕ, ◌+◌, false, List, [], ◌∷◌, ◌++◌, length, Option, None, Some}
use Rattle.std.specs.FinMap as finite
use Rattle.child_pipeline.specs.ChildTraces.{ChildTrace, is_in, after_start, after_finish}
use Rattle.child_pipeline.specs.StageSlots.{Slots, IsTicketless}
use Rattle.child_pipeline.specs.declared.order.Order.{Order}
use Rattle.child_pipeline.specs.declared.order.Placed.{Placed}
use Rattle.child_pipeline.specs.declared.runner.Progress.{Progress}
use Rattle.child_pipeline.specs.declared.runner.Progress.TheVariants.{Ready, Running, Ended}
use Rattle.child_pipeline.specs.declared.runner.Slot.{Slot}

-- Each job occurs once in the list.
abbrev pub AreDistinct : List ℕ → Type 0
AreDistinct [] = Unit {0}
AreDistinct (j ∷ js) = (is_in j js ≡ false) × AreDistinct js

-- The number of the running child, followed by these.
abbrev pub with_number : Progress ℕ → List ℕ → List ℕ
with_number (Ready input) ns = ns
with_number (Running n) ns = n ∷ ns
with_number (Ended finish) ns = ns

abbrev pub with_slot : Option (Slot ℕ) → List ℕ → List ℕ
with_slot None ns = ns
with_slot (Some slot) ns = with_number slot.progress ns

-- The running children of these jobs.
abbrev pub running_in : Slots → List ℕ → List ℕ
running_in slots [] = []
running_in slots (j ∷ js) = with_slot (finite.get slots j) (running_in slots js)

-- No child of these jobs is running.
abbrev pub AllRest : Slots → List ℕ → Type 0
AllRest slots [] = Unit {0}
AllRest slots (j ∷ js) = IsTicketless (finite.get slots j) × AllRest slots js

-- No child is running.
abbrev pub HasNoneRunning : Slots → Type 0
HasNoneRunning slots = (j : ℕ) → IsTicketless (finite.get slots j)

-- The trace after starts of these orders, and after finishes of the children with these numbers.
abbrev pub after_starts : ChildTrace → List Order → ChildTrace
after_starts t [] = t
after_starts t (order ∷ orders) = after_starts (after_start t order) orders

abbrev pub after_finishes : ChildTrace → List ℕ → ChildTrace
after_finishes t [] = t
after_finishes t (n ∷ ns) = after_finishes (after_finish t n) ns

-- Each of these orders was given when this number of children had been finished.
abbrev pub AreBefore : ℕ → List Placed → Type 0
AreBefore finished [] = Unit {0}
AreBefore finished (p ∷ ps) = (p.before ≡ finished) × AreBefore finished ps

-- There were only starts. All new orders were given before the first finish, and the children that were started are the running ones.
pub record AreStarted (old : ChildTrace) (slots : Slots) (js : List ℕ) (new : ChildTrace) : Type 0 where
  pub asked : List Order
  pub only : new ≡ after_starts old asked
  pub orders : List Placed
  pub added : new.orders ≡ old.orders ++ orders
  pub before : AreBefore old.finished orders
  pub finished : new.finished ≡ old.finished
  pub running : new.running ≡ old.running ++ running_in slots js

-- There were only finishes: each running child was finished, and no other.
pub record AreFinished (old : ChildTrace) (slots : Slots) (js : List ℕ) (new : ChildTrace) : Type 0 where
  pub only : new ≡ after_finishes old (running_in slots js)
  pub orders : new.orders ≡ old.orders
  pub running : new.running ≡ []
  pub finished : new.finished ≡ old.finished + length (running_in slots js)

-- Each child that was started was finished once and no other was, and every start came before the first finish.
pub record EachFinishedOnce (old : ChildTrace) (told : Option ChildTrace) (js : List ℕ) : Type 0 where
  -- The trace and the slots between the last start and the first finish.
  pub between : ChildTrace
  pub slots : Slots
  pub started : AreStarted old slots js between
  pub now : ChildTrace
  pub tells : told ≡ Some now
  pub finished : AreFinished between slots js now
