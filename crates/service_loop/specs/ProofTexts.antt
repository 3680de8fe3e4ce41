-- The replies to a client that proves who it is, to one that is denied, and to one for which no place is left.
use Rattle.std.specs.Prelude.{ℕ, cond, List, ◌++◌, codes, Option, None, Some}
use Rattle.command_lines.specs.Replies.{quoted}
use Rattle.client_standing.specs.declared.caller.Proved.{Proved}

abbrev pub no_proof : List ℕ
no_proof = codes "error proof\n"

-- The path of the folder that the client makes.
abbrev pub offer_text : Option (List ℕ) → List ℕ
offer_text None = no_proof
offer_text (Some path) = codes "ok proof " ++ quoted path ++ codes "\n"

abbrev pub proof_text : Option Proved → List ℕ
proof_text None = no_proof
proof_text (Some who) = cond who.is_operator (codes "ok operator ") (codes "ok user ") ++ who.name ++ codes "\n"

abbrev pub denied_text : List ℕ
denied_text = codes "error denied\n"

abbrev pub busy_text : List ℕ
busy_text = codes "error busy\n"
