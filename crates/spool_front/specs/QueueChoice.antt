-- The choice of a queue.
use Rattle.std.specs.Prelude.{ℕ, Bool, ◌==◌, cond, codes, List, [], ◌∷◌, String, string_bytes, Option, None, Some}
use Rattle.std.specs.Global.{Global}
use Rattle.std.specs.List.{list_any}
use Rattle.command_lines.specs.CommandGrammar.{is_word}
use Rattle.front_texts.specs.declared.queue_line.QueueLine.{QueueLine}

-- A queue has this name.
abbrev pub has_queue : List QueueLine → List ℕ → Bool
has_queue queues name = list_any (λ queue. is_word queue.name name) queues

-- The queue of a row, at the service of this socket.
abbrev pub place_at : List ℕ → QueueLine → List ℕ × List ℕ
place_at socket row = (socket, row.name)

-- The queue stored so far, with its socket, as a list of at most one element.
abbrev pub noted : {T : Type 0} → Option (T × String Global) → (T → List ℕ) → List (List ℕ × List ℕ)
noted None text = []
noted (Some service) text = (text service.0, string_bytes service.1) ∷ []

-- The queue of LPDEST, or else that of PRINTER. `lp` in PRINTER names no queue.
abbrev pub queue_in : Option (String Global) → Option (String Global) → Option (String Global)
queue_in (Some queue) printer = Some queue
queue_in None None = None
queue_in None (Some queue) = cond (is_word (string_bytes queue) (codes "lp")) None (Some queue)

-- The end of the first line of a file with a queue.
abbrev pub is_line_feed : ℕ → Bool
is_line_feed b = b == 10
