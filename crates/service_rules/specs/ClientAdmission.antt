-- Which client is replaced if a new client finds no free slot.
use Rattle.std.specs.Prelude.{◌≡◌, ℕ, ◌-◌, ◌<◌, ◌≤◌, Bool, false, not, ◌&&◌, cond, ◌==◌, nat_lt, nat_le, List, length, IsTrue}
use Rattle.std.specs.List.{Contains}
use Rattle.service_rules.specs.declared.slots.Client.{Client}
use Rattle.service_rules.specs.declared.slots.Admission.{Admission}
use Rattle.service_rules.specs.declared.slots.Admission.TheVariants.{Free, InsteadOf, Busy}
use Rattle.service_rules.specs.Bounds.{least_idle}

-- A client that has been silent long enough to be replaced, and does not listen.
abbrev pub is_idle : ℕ → Client → Bool
is_idle now c = not c.listens && nat_le least_idle (now - c.heard)

-- One client precedes another if it was heard earlier, or at the same moment and has the lower key.
abbrev pub goes_before : Client → Client → Bool
goes_before c d = cond (c.heard == d.heard) (nat_lt c.key d.key) (nat_lt c.heard d.heard)

-- The idle client that no other idle client precedes.
pub record IsFirstToGo (clients : List Client) (now : ℕ) (c : Client) : Type 0 where
  pub there : Contains clients c
  pub idle : IsTrue (is_idle now c)
  pub first : (d : Client) → Contains clients d → IsTrue (is_idle now d) → ¬ (IsTrue (goes_before d c))

-- No client is idle.
abbrev pub HasNoneIdle : List Client → ℕ → Type 0
HasNoneIdle clients now = (d : Client) → Contains clients d → is_idle now d ≡ false

-- The decision on a new client, given the number of places and the connected clients.
abbrev pub IsAdmission : ℕ → List Client → ℕ → Admission → Type 0
IsAdmission places clients now Free = length clients < places
IsAdmission places clients now (InsteadOf key) = (places ≤ length clients) × ((c : Client) × (c.key ≡ key) × IsFirstToGo clients now c)
IsAdmission places clients now Busy = (places ≤ length clients) × HasNoneIdle clients now
