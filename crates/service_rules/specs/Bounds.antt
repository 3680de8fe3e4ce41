-- The limits of the service. Moments and waits are in milliseconds unless stated otherwise.
use Rattle.std.specs.Prelude.{ℕ}

-- The most clients connected at once, whatever the command line gives.
abbrev pub most_clients : ℕ
most_clients = 1000

-- How long a client has been silent that a new client may replace.
abbrev pub least_idle : ℕ
least_idle = 10000

-- The bytes of replies that a client may leave unread.
abbrev pub most_unread : ℕ
most_unread = 65536

-- The most requests of one client in a turn.
abbrev pub most_commands : ℕ
most_commands = 32

-- The shortest pause between two checks of the children, in microseconds.
abbrev pub first_look : ℕ
first_look = 50

-- The longest pause between two checks, in microseconds.
abbrev pub last_look : ℕ
last_look = 64000

-- The time that the youngest child has run, divided by this number, is the pause.
abbrev pub look_parts : ℕ
look_parts = 16

-- The latest first check of a child that is alone, in microseconds after its start.
abbrev pub longest_first : ℕ
longest_first = 2000

-- The microseconds of a millisecond.
abbrev pub millisecond : ℕ
millisecond = 1000

-- The least seconds between two clocks that are sent.
abbrev pub clock_interval : ℕ
clock_interval = 1

-- The longest wait of the poll for a due moment.
abbrev pub longest_wait : ℕ
longest_wait = 60000

-- How far the system's clock may be ahead of the service's time to be followed at once: a day.
abbrev pub longest_step : ℕ
longest_step = 86400000

-- How long a system's clock that is further ahead is not followed: ten minutes.
abbrev pub longest_doubt : ℕ
longest_doubt = 600000

-- How far the system's clock must be behind the service's time to be logged.
abbrev pub least_parting : ℕ
least_parting = 2000

-- The least time between two lines of the log about the system's clock.
abbrev pub news_interval : ℕ
news_interval = 60000

-- A checkpoint takes at most the time that follows it, divided by this number.
abbrev pub checkpoint_parts : ℕ
checkpoint_parts = 10

-- The most jobs purged in a turn.
abbrev pub most_purges : ℕ
most_purges = 8

-- The least time between two checks for abandoned jobs.
abbrev pub check_interval : ℕ
check_interval = 1000
