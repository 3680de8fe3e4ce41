-- Which clients may listen: wait for a job's end, or watch. Some places are never theirs, so that others are always served.
use Rattle.std.specs.Prelude.{ℕ, ◌+◌, ◌-◌, ◌/◌, Bool, true, false, ◌&&◌, nat_lt, nat_eq, cond, List, [], ◌∷◌, ◌++◌, length, take, drop, count_by, Option, None, Some}
use Rattle.service_rules.specs.declared.listening.Listening.{Listening}

-- A quarter of the places, rounded up, is never theirs.
abbrev pub most_listeners : ℕ → ℕ
most_listeners places = places - (places + 3) / 4

-- The clients of one user have at most half of these, rounded up.
abbrev pub user_share : ℕ → ℕ
user_share places = (most_listeners places + 1) / 2

-- Fewer clients of its user listen than may, if it counts for a user.
abbrev pub has_share_left : ℕ → Option ℕ → Bool
has_share_left places None = true
has_share_left places (Some own) = nat_lt own (user_share places)

-- One more client may listen.
abbrev pub may_listen : Listening → Bool
may_listen l = nat_lt l.others (most_listeners l.places) && has_share_left l.places l.own

-- ## Over time

-- A client, by its user, or none for an operator.
abbrev pub is_of : ℕ → Option ℕ → Bool
is_of user None = false
is_of user (Some other) = nat_eq user other

-- How many clients of a user are in the list.
abbrev pub count_of : ℕ → List (Option ℕ) → ℕ
count_of user clients = count_by (is_of user) clients

-- The clients of its user that listen.
abbrev pub own_of : Option ℕ → List (Option ℕ) → Option ℕ
own_of None clients = None
own_of (Some user) clients = Some (count_of user clients)

-- A client asks to listen, or the client in this position of the list ends that.
pub data Wish : Type 0 where
  begins : Option ℕ → Wish
  ends : ℕ → Wish

abbrev pub after_wish : ℕ → List (Option ℕ) → Wish → List (Option ℕ)
after_wish places clients (begins who) =
    cond (may_listen (record { places = places; others = length clients; own = own_of who clients })) (clients ++ who ∷ []) clients
after_wish places clients (ends position) = take position clients ++ drop (position + 1) clients

-- The clients that listen after these wishes.
abbrev pub listeners_after : ℕ → List (Option ℕ) → List Wish → List (Option ℕ)
listeners_after places clients [] = clients
listeners_after places clients (w ∷ ws) = listeners_after places (after_wish places clients w) ws
