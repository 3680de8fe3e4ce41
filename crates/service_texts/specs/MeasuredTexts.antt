-- The replies to `room` and `now`.
use Rattle.std.specs.Prelude.{ℕ, List, ◌++◌, codes}
use Rattle.std.specs.Fmt.{decimal}

-- The length in bytes of the greatest document that is accepted now.
abbrev pub room_text : ℕ → List ℕ
room_text bytes = codes "ok room " ++ decimal bytes ++ codes "\n"

-- The moment of the service, in seconds.
abbrev pub now_text : ℕ → List ℕ
now_text moment = codes "ok now " ++ decimal moment ++ codes "\n"
