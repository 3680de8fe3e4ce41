-- The sentence for people about the reply to `why`. A table with one row for each word of a cause.
use Rattle.std.specs.Prelude.{ℕ, Bool, ◌&&◌, cond, nat_eq, List, [], ◌++◌, codes, Option, None, Some}
use Rattle.std.specs.Cmp.Lexicographic.{pointwise}
use Rattle.line_words.specs.Blanks.{after_word, first_word}

abbrev pub is_word : List ℕ → List ℕ → Bool
is_word word name = pointwise nat_eq word name

-- A cause without a job.
abbrev pub plain_sentence : List ℕ → Option (List ℕ)
plain_sentence word =
    cond (is_word word (codes "arriving")) (Some (codes "its document is being sent"))
    (cond (is_word word (codes "abandoned")) (Some (codes "its client has disconnected before the document was complete"))
    (cond (is_word word (codes "held")) (Some (codes "it is held until it is released"))
    (cond (is_word word (codes "held-until")) (Some (codes "it is held"))
    (cond (is_word word (codes "retry")) (Some (codes "an attempt failed, and the next one is not due yet"))
    (cond (is_word word (codes "stopped")) (Some (codes "its queue is stopped"))
    (cond (is_word word (codes "children")) (Some (codes "the limit of running filters and backends is reached"))
    (cond (is_word word (codes "full")) (Some (codes "the spool is short of room"))
    (cond (is_word word (codes "next")) (Some (codes "it is next, and starts as soon as the printer and the system are free"))
    None))))))))

-- How many jobs are before it, in the words `J ahead N`.
abbrev pub count_of : List ℕ → List ℕ
count_of rest = first_word (after_word (after_word rest))

unfoldable pub ahead_of : List ℕ → List ℕ
ahead_of rest = codes "; waiting jobs before it: " ++ count_of rest

-- The job of these words, with a text before it and one after it.
unfoldable pub order_text : List ℕ → List ℕ → List ℕ → List ℕ
order_text before after rest = before ++ first_word rest ++ after ++ ahead_of rest

-- A cause with the job that goes first.
abbrev pub order_sentence : List ℕ → List ℕ → Option (List ℕ)
order_sentence word rest =
    cond (is_word word (codes "taken")) (Some (order_text (codes "its queue prints job ") [] rest))
    (cond (is_word word (codes "behind")) (Some (order_text (codes "its queue starts job ") (codes " first") rest))
    None)

abbrev pub or_order : Option (List ℕ) → List ℕ → List ℕ → Option (List ℕ)
or_order None word rest = order_sentence word rest
or_order (Some sentence) word rest = Some sentence

abbrev pub sentence_of : List ℕ → Option (List ℕ)
sentence_of rest = or_order (plain_sentence (first_word rest)) (first_word rest) (after_word rest)

-- The sentence about a reply, if it names a cause for which the job does not print.
abbrev pub cause_sentence : List ℕ → Option (List ℕ)
cause_sentence line =
    cond (is_word (first_word line) (codes "ok") && is_word (first_word (after_word line)) (codes "why")) (sentence_of (after_word (after_word line))) None
