-- The bytes of a reply that has not come completely.
use Rattle.std.specs.Prelude.{ℕ, List, ◌++◌}
use Rattle.service_client.specs.Lines.{lines_text}
use Rattle.service_client.specs.declared.reader.ReplyReader.{ReplyReader}

-- The bytes that a reader has of the reply that comes.
abbrev pub held : ReplyReader → List ℕ
held reader = lines_text reader.rows.items ++ reader.lines.part.items
