-- A piece of a document that is sent to a job.
use Rattle.std.specs.Prelude.{ℕ, List, ◌++◌, codes, length}
use Rattle.std.specs.Fmt.{decimal}

-- The command that appends a piece to a job: its line, the bytes, and a line feed.
abbrev pub send_text : ℕ → List ℕ → List ℕ
send_text job piece = codes "send " ++ decimal job ++ codes " " ++ decimal (length piece) ++ codes "\n" ++ piece ++ codes "\n"
