-- Maximum numbers of queues, bytes and starts, the greatest job number and the greatest moment.
use Rattle.std.specs.Prelude.{ℕ}

-- Queues in a table.
abbrev pub most_queues : ℕ
most_queues = 64

-- Bytes of a job's document.
abbrev pub longest_document : ℕ
longest_document = 16777216

-- Bytes of one send.
abbrev pub longest_send : ℕ
longest_send = 65536

-- The number of a job.
abbrev pub greatest_number : ℕ
greatest_number = 2147483647

-- A moment, in seconds.
abbrev pub greatest_moment : ℕ
greatest_moment = 4000000000000

-- The number of times a job was started.
abbrev pub greatest_attempts : ℕ
greatest_attempts = 4294967295
