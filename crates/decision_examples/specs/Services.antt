-- Examples of a service's decisions: client turns, checks of children, the clock, checkpoints, purges and starts.
use Rattle.std.specs.Prelude.{◌≡◌, ℕ, Bool, true, false, List, [], ◌∷◌, ◌++◌, map, Option, None, Some}
use Rattle.service_rules.specs.declared.checkpoints.Checkpoint.{Checkpoint}
use Rattle.service_rules.specs.declared.checkpoints.Room.{Room}
use Rattle.service_rules.specs.declared.clocks.Clocks.{Clocks}
use Rattle.service_rules.specs.declared.purges.Candidate.{Candidate}
use Rattle.service_rules.specs.Checkpoints.{is_wanted, room_in}
use Rattle.service_rules.specs.Clocks.{clock_to_announce, clock_wait}
use Rattle.service_rules.specs.declared.looks.Pause.{Pause}
use Rattle.service_rules.specs.ChildPolling.{next_look, pause_for, poll_wait}
use Rattle.service_rules.specs.Purges.{purge_count, purged, swept_to}
use Rattle.service_rules.specs.ClientBounds.{is_served_on}

-- The 32nd command is served, the 33rd is not. A command is served with one byte less than 64 KiB unread.
abbrev pub ServedRows : Type 0
ServedRows = is_served_on 0 0 ∷ is_served_on 31 0 ∷ is_served_on 32 0 ∷ is_served_on 0 65535 ∷ is_served_on 0 65536 ∷ []
    ≡ true ∷ true ∷ false ∷ true ∷ false ∷ []

abbrev pub pause : ℕ → ℕ → Pause
pause nap poll = record { nap = nap; poll = poll }

-- No child; a child that was just started; one that has run for 0.8 ms, and for 16 ms with two more; the longest pause, and beyond it.
abbrev pub LookRows : Type 0
LookRows = next_look 0 9000 0 ∷ next_look 0 0 1 ∷ next_look 0 800 1 ∷ next_look 0 16000 3 ∷ next_look 0 1024000 1 ∷ next_look 0 9000000 1 ∷ []
    ≡ None ∷ Some 50 ∷ Some 50 ∷ Some 1000 ∷ Some 64000 ∷ Some 64000 ∷ []

-- After a child that ran for 1.6 ms: just started, after 1 ms, just before and at the first check, and with another child. After a child
-- that ran for 5 s: just started.
abbrev pub FirstLookRows : Type 0
FirstLookRows = next_look 1600 0 1 ∷ next_look 1600 1000 1 ∷ next_look 1600 1499 1 ∷ next_look 1600 1500 1 ∷ next_look 1600 0 2 ∷ next_look 5000000 0 1 ∷ []
    ≡ Some 1500 ∷ Some 500 ∷ Some 50 ∷ Some 93 ∷ Some 50 ∷ Some 2000 ∷ []

-- No wait, less than a millisecond, one, and a part more than two.
abbrev pub PauseRows : Type 0
PauseRows = map pause_for (0 ∷ 999 ∷ 1000 ∷ 2500 ∷ []) ≡ pause 0 0 ∷ pause 999 0 ∷ pause 0 1 ∷ pause 0 2 ∷ []

-- More to do; a check and the clock; one of them; neither.
abbrev pub WaitRows : Type 0
WaitRows = poll_wait true (Some 8) (Some 5) ∷ poll_wait false (Some 8) (Some 5) ∷ poll_wait false (Some 8) (Some 900)
    ∷ poll_wait false (Some 8) None ∷ poll_wait false None (Some 900) ∷ poll_wait false None None ∷ []
    ≡ Some 0 ∷ Some 5 ∷ Some 8 ∷ Some 8 ∷ Some 900 ∷ None ∷ []

-- The system's second, the table's moment, the moment sent last and the due moment.
abbrev pub clocks : ℕ → ℕ → Option ℕ → Option ℕ → Clocks
clocks system table told due = record { system = system; table = table; told = told; due = due }

-- Nothing is due; it will be due; it is due, for the first time and later; in the second that was sent last; the system's clock was set
-- back before the table's moment, or before a moment that was sent and refused.
abbrev pub times : List Clocks
times = clocks 100 90 None None ∷ clocks 100 90 (Some 90) (Some 101) ∷ clocks 100 90 None (Some 100) ∷ clocks 100 90 (Some 90) (Some 95)
    ∷ clocks 100 90 (Some 100) (Some 95) ∷ clocks 100 200 (Some 200) (Some 95) ∷ clocks 100 90 (Some 120) (Some 95) ∷ []

abbrev pub ClockRows : Type 0
ClockRows = map clock_to_announce times ≡ None ∷ None ∷ Some 100 ∷ Some 100 ∷ None ∷ None ∷ None ∷ []

-- At these times, 250 milliseconds after the beginning of the second.
abbrev pub ClockWaitRows : Type 0
ClockWaitRows = map (λ (c : Clocks). clock_wait c c.due 250) times
    ≡ None ∷ Some 750 ∷ Some 0 ∷ Some 0 ∷ Some 750 ∷ Some 60000 ∷ Some 20750 ∷ []

abbrev pub room : ℕ → ℕ → Room
room used size = record { used = used; size = size }

-- Begun at the moment 500 and ended at 600. If it was made, this number of bytes was used after it.
abbrev pub checkpoint : Option ℕ → Option Checkpoint
checkpoint left = Some (record { began = 500; ended = 600; left = left })

-- A quarter is free, and a byte less; an event was Full but the journal is not short; a journal of no bytes.
abbrev pub ShortRows : Type 0
ShortRows = is_wanted (room 75 100) 25 false None 0 ∷ is_wanted (room 76 100) 25 false None 0 ∷ is_wanted (room 0 100) 25 true None 0
    ∷ is_wanted (room 0 0) 25 false None 0 ∷ []
    ≡ false ∷ true ∷ true ∷ false ∷ []

-- An area of 200 bytes before the first checkpoint; after one that left 100; more is free than the previous one left.
abbrev pub RoomRows : Type 0
RoomRows = room_in 200 None 60 ∷ room_in 200 (Some 100) 60 ∷ room_in 200 (Some 100) 120 ∷ []
    ≡ room 140 200 ∷ room 40 100 ∷ room 0 100 ∷ []

-- Ten times the duration of the last one has passed, and a millisecond less, also when Full; nothing was written after it, also when Full;
-- it failed.
abbrev pub CheckpointRows : Type 0
CheckpointRows = is_wanted (room 76 100) 25 false (checkpoint (Some 70)) 1600 ∷ is_wanted (room 76 100) 25 false (checkpoint (Some 70)) 1599
    ∷ is_wanted (room 100 100) 25 true (checkpoint (Some 70)) 1599 ∷ is_wanted (room 76 100) 25 false (checkpoint (Some 76)) 9000
    ∷ is_wanted (room 76 100) 25 true (checkpoint (Some 76)) 9000 ∷ is_wanted (room 76 100) 25 false (checkpoint None) 1600 ∷ []
    ≡ true ∷ false ∷ false ∷ false ∷ false ∷ true ∷ []

-- Fewer than the number to retain, this number, one more, many more; none to retain.
abbrev pub PurgeCountRows : Type 0
PurgeCountRows = purge_count 3 500 ∷ purge_count 500 500 ∷ purge_count 501 500 ∷ purge_count 9000 500 ∷ purge_count 3 0 ∷ []
    ≡ 0 ∷ 0 ∷ 1 ∷ 8 ∷ 3 ∷ []

abbrev pub candidate : ℕ → Bool → Bool → Candidate
candidate id ended runs = record { id = id; ended = ended; runs = runs }

-- Job 2 has not ended, and a child of job 3 still runs.
abbrev pub jobs : List Candidate
jobs = candidate 1 true false ∷ candidate 2 false true ∷ candidate 3 true true ∷ candidate 7 true false ∷ candidate 9 true false ∷ []

abbrev pub PurgeRows : Type 0
PurgeRows = map (λ count. purged count jobs) (0 ∷ 1 ∷ 2 ∷ 3 ∷ 8 ∷ [])
    ≡ [] ∷ (1 ∷ []) ∷ (1 ∷ 7 ∷ []) ∷ (1 ∷ 7 ∷ 9 ∷ []) ∷ (1 ∷ 7 ∷ 9 ∷ []) ∷ []

-- None is returned up to the first purgeable job; later jobs that may not be purged are skipped; all were checked.
abbrev pub SweptRows : Type 0
SweptRows = map (λ count. swept_to 0 count jobs) (0 ∷ 1 ∷ 2 ∷ 3 ∷ 8 ∷ []) ++ swept_to 9 1 [] ∷ []
    ≡ 0 ∷ 3 ∷ 7 ∷ 9 ∷ 9 ∷ 9 ∷ []
