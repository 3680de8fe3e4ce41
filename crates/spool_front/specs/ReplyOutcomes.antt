-- The outcome of a reply.
use Rattle.std.specs.Prelude.{ℕ, Bool, true, false, cond, List, [], ◌∷◌, ◌++◌, map, codes, string_bytes, Option, Some, Result, Ok, Err, Vec}
use Rattle.std.specs.Global.{Global}
use Rattle.std.specs.List.{flat_map}
use Rattle.front_texts.specs.ReplyLines.{Last, done, last_line}
use Rattle.spool_front.specs.declared.client.Answer.{Answer}
use Rattle.spool_front.specs.declared.fault.Fault.{Fault}
use Rattle.spool_front.specs.declared.fault.Fault.TheVariants.{Refused}

abbrev pub says_done : Option Last → Bool
says_done (Some (done words)) = true
says_done last = false

-- The reply with this last line is not a refusal.
abbrev pub is_done : List ℕ → Bool
is_done line = says_done (last_line line)

-- A refusal is reported with its last line.
abbrev pub accepted : Answer → Result Answer Fault
accepted answer = cond (is_done (string_bytes answer.last)) (Ok answer) (Err (Refused answer.last))

-- The lines of a reply: its rows and its last line.
abbrev pub answer_lines : Answer → List (List ℕ)
answer_lines answer = map (λ row. row.items) answer.rows.items ++ string_bytes answer.last ∷ []

abbrev pub row_text : Vec ℕ Global → List ℕ
row_text row = row.items ++ codes "\n"

-- The rows, each with its line feed.
abbrev pub rows_text : List (Vec ℕ Global) → List ℕ
rows_text rows = flat_map row_text rows
