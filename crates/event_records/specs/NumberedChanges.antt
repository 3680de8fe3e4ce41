-- The last changes of jobs and queues, by number.
use Rattle.std.specs.Prelude.{◌≡◌, ◌⊎◌, ℕ, ◌+◌, ◌-◌, Bool, ◌&&◌, cond, nat_le, nat_lt, List, [], ◌∷◌, ◌++◌, drop, length}
use Rattle.event_records.specs.declared.changes.Subject.{Subject}

-- At most so many are kept.
abbrev pub most_changes : ℕ
most_changes = 4096

-- The greatest number. It has 13 digits, the most of a command's number.
abbrev pub greatest_change : ℕ
greatest_change = 9999999999999

-- What the last changes changed, in order, and the number of the last one. Each has the number after that of the one before it.
pub record NumberedChanges : Type 0 where
  pub last : ℕ
  pub items : List Subject

-- Without the first one, if there is no room for one more.
abbrev pub with_room : List Subject → List Subject
with_room items = cond (nat_lt (length items) most_changes) items (drop 1 items)

-- A change of which nothing is known: all that came before it is forgotten. After the greatest number comes 0.
abbrev pub forgotten : NumberedChanges → NumberedChanges
forgotten c = record { last = cond (nat_lt c.last greatest_change) (c.last + 1) 0; items = [] }

abbrev pub with_change : NumberedChanges → Subject → NumberedChanges
with_change c x = cond (nat_lt c.last greatest_change) (record { last = c.last + 1; items = with_room c.items ++ x ∷ [] }) (forgotten c)

-- A change is noted, or memory ran out for its name, and all is forgotten.
abbrev pub HasNoted : NumberedChanges → Subject → NumberedChanges → Type 0
HasNoted old x new = (new ≡ with_change old x) ⊎ (new ≡ forgotten old)

-- Each change after this number is known.
abbrev pub is_known : NumberedChanges → ℕ → Bool
is_known c number = nat_le number c.last && nat_le (c.last - number) (length c.items)

-- The position of the first change after a known number.
abbrev pub position_after : NumberedChanges → ℕ → ℕ
position_after c number = length c.items - (c.last - number)

-- What changed after a known number, in order.
abbrev pub since : NumberedChanges → ℕ → List Subject
since c number = drop (position_after c number) c.items
