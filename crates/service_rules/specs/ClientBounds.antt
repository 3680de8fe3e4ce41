-- How much of a client is served before the others have their turn.
use Rattle.std.specs.Prelude.{ℕ, Bool, ◌&&◌, nat_lt}
use Rattle.service_rules.specs.Bounds.{most_commands, most_unread}

-- Fewer requests were served in this turn than allowed, and fewer bytes are unread.
abbrev pub is_served_on : ℕ → ℕ → Bool
is_served_on served unread = nat_lt served most_commands && nat_lt unread most_unread
