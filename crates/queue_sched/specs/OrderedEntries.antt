-- A list of entries in order, as its callers see it.
use Rattle.std.specs.Prelude.{◌≡◌, ℕ, List, ◌∷◌, ◌++◌}
use Rattle.queue_sched.specs.declared.entry.Entry.{Entry}

-- The entries, and the number that fit without allocating.
pub record OrderedEntries : Type 0 where
  pub items : List Entry
  pub room : ℕ

-- One list is the other with one more entry, at any position.
pub record IsMore (e : Entry) (less more : List Entry) : Type 0 where
  pub front : List Entry
  pub back : List Entry
  pub less_is : less ≡ front ++ back
  pub more_is : more ≡ front ++ e ∷ back

-- One entry is at the position of the other.
pub record IsExchange (from to : Entry) (old new : List Entry) : Type 0 where
  pub rest : List Entry
  pub was : IsMore from rest old
  pub is : IsMore to rest new
