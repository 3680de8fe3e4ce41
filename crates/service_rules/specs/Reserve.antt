-- The reserve of the journal: room that no new job and no document may use.
use Rattle.std.specs.Prelude.{ℕ, ◌+◌, ◌-◌, ◌*◌, ◌/◌, ◌%◌, Bool, min, max, nat_le}
use Rattle.spool_types.specs.Limits.{longest_document, longest_send}
use Rattle.service_rules.specs.declared.reserve.Journal.{Journal}

-- The reserve of an area of 256 KiB or more, up to 6.5 MB.
abbrev pub least_reserve : ℕ
least_reserve = 65536

-- A hundredth of a larger area, and a quarter of a smaller one.
abbrev pub reserve_of : ℕ → ℕ
reserve_of area = min (max (area / 100) least_reserve) (area / 4)

-- How much longer the row of a job in a checkpoint is than the record that created the job, at most.
abbrev pub row_growth : ℕ
row_growth = 32

-- The bytes that stay free: the reserve, and the bytes by which a checkpoint may be longer than the records.
abbrev pub kept_room : Journal → ℕ
kept_room j = reserve_of j.area + j.jobs * row_growth

-- An event that takes room, and needs at most this many bytes, is let in.
abbrev pub is_let_in : Journal → ℕ → Bool
is_let_in j cost = nat_le (cost + kept_room j) j.free

-- ## The bytes that an event needs at most

-- A record without its texts, and the gate after it.
abbrev pub record_cost : ℕ
record_cost = 64

-- The longest texts of a job: its queue, its user, its title and its options.
abbrev pub longest_texts : ℕ
longest_texts = 127 + 255 + 255 + 2048

-- An event that creates a job. The row of the job is longer than the record.
abbrev pub create_cost : ℕ
create_cost = longest_texts + record_cost + row_growth

-- A send of this many bytes.
abbrev pub send_cost : ℕ → ℕ
send_cost bytes = bytes + record_cost

-- An event that closes a job: a media type of 255 bytes, and the names of 15 filters of 127 bytes.
abbrev pub close_cost : ℕ
close_cost = 255 + 15 * 129 + record_cost

-- ## The document that fits

-- What a job needs beside its document.
abbrev pub job_cost : ℕ
job_cost = create_cost + close_cost

-- What the sends of a document need, each of the greatest length except the last.
abbrev pub sends_cost : ℕ → ℕ
sends_cost bytes = bytes + (bytes + (longest_send - 1)) / longest_send * record_cost

-- The longest document whose sends need at most this many bytes.
abbrev pub document_in : ℕ → ℕ
document_in budget = min (budget / send_cost longest_send * longest_send + (budget % send_cost longest_send - record_cost)) longest_document

-- The longest document that is let in.
abbrev pub document_room : Journal → ℕ
document_room j = document_in (j.free - (kept_room j + job_cost))
