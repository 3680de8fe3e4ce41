-- What admission knows of the clients.
use Rattle.std.specs.Prelude.{ℕ, ◌-◌, ◌==◌, Bool, not, ◌&&◌, ◌||◌, List, map, vec_len, is_some, Option, None, Some, false}
use Rattle.slab.specs.Slab.{Slab, entries}
use Rattle.service_rules.specs.declared.slots.Client.{Client as Heard}
use Rattle.service_loop.specs.declared.client.Client.{Client}

-- The number of bytes of its replies that it has not taken.
abbrev pub unread : {L : Type 0} → Client L → ℕ
unread c = vec_len c.replies - c.taken

-- It is sent what changes, until its text has ended.
abbrev pub watches : {L : Type 0} → Client L → Bool
watches c = c.watches && not c.over

-- The slot has a client that watches.
abbrev pub is_watched : {L : Type 0} → Option (Client L) → Bool
is_watched None = false
is_watched (Some c) = watches c

-- It waits for a job's end or watches.
abbrev pub is_listener : {L : Type 0} → Client L → Bool
is_listener c = is_some c.waits || watches c

-- It does so and has taken all that it was sent. So it is not idle.
abbrev pub listens : {L : Type 0} → Client L → Bool
listens c = is_listener c && (unread c == 0)

-- A client, with its key.
abbrev pub heard_at : {L : Type 0} → ℕ × Client L → Heard
heard_at slot = record { key = slot.0; heard = slot.1.last_active; listens = listens slot.1 }

-- All clients, in the order of their keys.
abbrev pub heard_of : {L : Type 0} → Slab (Client L) → List Heard
heard_of slots = map heard_at (entries slots)
