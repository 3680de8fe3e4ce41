-- The answers of the system to the question who a user is.
use Rattle.std.specs.Prelude.{ℕ, Bool, ◌-◌, ◌==◌, ◌&&◌, nat_lt, cond, List, [], ◌∷◌, ◌++◌, length, drop, Option, None, Some}
use Rattle.std.specs.List.{find}
use Rattle.user_proofs.specs.declared.known.KnownUser.{KnownUser}
use Rattle.user_proofs.specs.declared.known.Identity.{Identity}

-- In milliseconds: the system is asked again after 10 minutes, and after 10 seconds if it knew no name.
abbrev pub lifetime : Option Identity → ℕ
lifetime (Some identity) = 600000
lifetime None = 10000

abbrev pub is_known : ℕ → ℕ → KnownUser → Bool
is_known uid now user = user.uid == uid && nat_lt (now - user.since) (lifetime user.identity)

-- The first answer for this user that is still valid at this moment.
abbrev pub known_at : ℕ → ℕ → List KnownUser → Option KnownUser
known_at uid now users = find (is_known uid now) users

abbrev pub most_users : ℕ
most_users = 1024

-- Room for one more: a full list loses its oldest answer.
abbrev pub with_room : List KnownUser → List KnownUser
with_room users = cond (nat_lt (length users) most_users) users (drop 1 users)

abbrev pub noted : KnownUser → List KnownUser → List KnownUser
noted user users = with_room users ++ user ∷ []
