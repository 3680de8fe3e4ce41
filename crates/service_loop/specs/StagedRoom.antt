-- When the staged events must become durable before more are staged.
use Rattle.std.specs.Prelude.{◌-◌, ℕ, Bool, nat_le}

-- In bytes of records.
abbrev pub most_staged : ℕ
most_staged = 1048576

-- The journal had room for this many bytes of records before the events were staged, and has this room after them.
abbrev pub has_many_staged : ℕ → ℕ → Bool
has_many_staged before room = nat_le most_staged (before - room)
