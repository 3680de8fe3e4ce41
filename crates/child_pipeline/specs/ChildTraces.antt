-- The trace that children report: their answers to come, their orders, the running children, and the number of finished ones.
use Rattle.std.specs.Prelude.{◌≡◌, ℕ, ◌+◌, Bool, true, false, cond, ◌==◌, List, [], ◌∷◌, ◌++◌, length, Option, None, Some, Result, Ok, Err, IfOk, is_ok}
use Rattle.std.specs.List.{list_any}
use Rattle.child_pipeline.specs.declared.order.Order.{Order}
use Rattle.child_pipeline.specs.declared.order.Placed.{Placed}
use Rattle.child_pipeline.specs.declared.order.Finish.{Finish}
use Rattle.child_pipeline.specs.declared.order.ChildFault.{ChildFault}

pub record ChildTrace : Type 0 where
  -- The answers of `start` and of `finish` to come. After their end each answer is an error.
  pub starts : List (Result (Unit {0}) ChildFault)
  pub finishes : List (Result Finish ChildFault)
  -- The answers of checks to come, true if the child has ended. After their end each check reports that it has.
  pub looks : List Bool
  -- The orders that were answered from the list, in order. An order's number is its position here.
  pub orders : List Placed
  -- The numbers of the children that were started and are not finished, in the order of their starts.
  pub running : List ℕ
  -- The number of finished children.
  pub finished : ℕ

-- Whether the next child starts.
abbrev pub starts_first : List (Result (Unit {0}) ChildFault) → Bool
starts_first [] = false
starts_first (Ok done ∷ rest) = true
starts_first (Err fault ∷ rest) = false

abbrev pub starts_next : ChildTrace → Bool
starts_next t = starts_first t.starts

-- The orders with this one at the end.
abbrev pub with_order : ChildTrace → Order → List Placed
with_order t order = t.orders ++ record { order = order; before = t.finished } ∷ []

-- The trace after a start, given the answers to come.
abbrev pub started_by : ChildTrace → Order → List (Result (Unit {0}) ChildFault) → ChildTrace
started_by t order [] = t
started_by t order (Ok done ∷ rest) = record t { starts = rest; orders = with_order t order; running = t.running ++ length t.orders ∷ [] }
started_by t order (Err fault ∷ rest) = record t { starts = rest; orders = with_order t order }

abbrev pub after_start : ChildTrace → Order → ChildTrace
after_start t order = started_by t order t.starts

-- The list without the first occurrence of this number.
abbrev pub without : ℕ → List ℕ → List ℕ
without n [] = []
without n (x ∷ xs) = cond (x == n) xs (x ∷ without n xs)

-- Whether the number is in the list.
abbrev pub is_in : ℕ → List ℕ → Bool
is_in n xs = list_any (λ x. x == n) xs

-- The next finish of a child, if it is known.
abbrev pub first_finish : List (Result Finish ChildFault) → Option Finish
first_finish [] = None
first_finish (Ok f ∷ rest) = Some f
first_finish (Err fault ∷ rest) = None

abbrev pub rest_of : List (Result Finish ChildFault) → List (Result Finish ChildFault)
rest_of [] = []
rest_of (f ∷ rest) = rest

abbrev pub after_finish : ChildTrace → ℕ → ChildTrace
after_finish t n = record t { finishes = rest_of t.finishes; running = without n t.running; finished = t.finished + 1 }

-- The child was started exactly if the next answer says so, and its ticket has the order's number.
pub record HasStarted {T : Type 0} (number : T → ℕ) (t : ChildTrace) (order : Order) (result : Result T ChildFault) (new : Option ChildTrace) : Type 0 where
  pub answer : is_ok result ≡ starts_next t
  pub ticket : IfOk result (λ ticket. number ticket ≡ length t.orders)
  pub told : new ≡ Some (after_start t order)

abbrev pub Starts : {T : Type 0} → (T → ℕ) → Option ChildTrace → Order → Result T ChildFault → Option ChildTrace → Type 0
Starts number None order result new = new ≡ None
Starts number (Some t) order result new = HasStarted number t order result new

-- The finish in an answer, if any.
abbrev pub finish_in : Result Finish ChildFault → Option Finish
finish_in (Ok f) = Some f
finish_in (Err fault) = None

pub record HasFinished (t : ChildTrace) (n : ℕ) (result : Result Finish ChildFault) (new : Option ChildTrace) : Type 0 where
  pub answer : finish_in result ≡ first_finish t.finishes
  pub told : new ≡ Some (after_finish t n)

-- The finish of a running child.
abbrev pub Finishes : Option ChildTrace → ℕ → Result Finish ChildFault → Option ChildTrace → Type 0
Finishes None n result new = new ≡ None
Finishes (Some t) n result new = is_in n t.running ≡ true → HasFinished t n result new

-- Whether the next check reports that the child has ended.
abbrev pub first_look : List Bool → Bool
first_look [] = true
first_look (ended ∷ rest) = ended

abbrev pub looks_next : ChildTrace → Bool
looks_next t = first_look t.looks

abbrev pub later_looks : List Bool → List Bool
later_looks [] = []
later_looks (ended ∷ rest) = rest

abbrev pub after_look : ChildTrace → ChildTrace
after_look t = record t { looks = later_looks t.looks }

-- A check has the next answer, and changes nothing else.
pub record HasLooked (t : ChildTrace) (ended : Bool) (new : Option ChildTrace) : Type 0 where
  pub answer : ended ≡ looks_next t
  pub told : new ≡ Some (after_look t)

abbrev pub Looks : Option ChildTrace → Bool → Option ChildTrace → Type 0
Looks None ended new = new ≡ None
Looks (Some t) ended new = HasLooked t ended new
