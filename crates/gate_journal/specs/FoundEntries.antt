-- The contents of a journal at an offset.
use Rattle.std.specs.Prelude.{◌≡◌, ◌<◌, ◌^◌, ℕ, ◌+◌, List, [], ◌∷◌, ◌++◌, take, drop, ⊤, if◌then◌else◌, ◌==◌, nat_lt, slice_index, slice_range}
use Rattle.std.specs.Int.{w32, to_be_bytes, from_be_bytes}
use Rattle.gate_journal.specs.Entries.{open_gate, HasFirst, HasEntries}
use Rattle.gate_journal.specs.declared.entry.Found.{Found}
use Rattle.gate_journal.specs.declared.entry.Found.TheVariants.{Entry, End, Damaged}

-- The length after the gate at an offset.
abbrev pub length_at : List ℕ → ℕ → ℕ
length_at bytes place = from_be_bytes w32 (take 4 (drop (place + 1) bytes))

-- After an open gate a record if it and the next gate are before `end`, otherwise damage. At a closed gate the end.
abbrev pub entry_at : List ℕ → ℕ → ℕ → Found
entry_at bytes end place =
    if slice_index bytes place == open_gate
    then (if nat_lt (place + 5 + length_at bytes place) end then Entry (place + 5) (length_at bytes place) else Damaged)
    else End

-- The payload is after the gate, and the next gate before `end`.
abbrev pub LiesBefore : ℕ → ℕ → Found → Type 0
LiesBefore end place (Entry at len) = (at ≡ place + 5) × (at + len < end)
LiesBefore end place End = ⊤
LiesBefore end place Damaged = ⊤

-- The contents after these first entries: one more entry, or that there are no others.
abbrev pub GoesOn : ℕ → List (List ℕ) → List ℕ → Found → Type 0
GoesOn base payloads bytes (Entry at len) = HasFirst base (at + len) (payloads ++ slice_range bytes at (at + len) ∷ []) bytes
GoesOn base payloads bytes End = HasEntries base payloads bytes
GoesOn base payloads bytes Damaged = ⊤

-- The length found is the one in the four bytes after the gate.
abbrev pub IsSpelt : List ℕ → ℕ → Found → Type 0
IsSpelt bytes place (Entry at len) = (len < 2 ^ 32) × (to_be_bytes w32 len ≡ take 4 (drop (place + 1) bytes))
IsSpelt bytes place End = ⊤
IsSpelt bytes place Damaged = ⊤
