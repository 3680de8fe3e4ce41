-- Rows of `queues`.
use Rattle.std.specs.Prelude.{ℕ, Bool, cond, nat_le, ◌==◌, List, [], ◌∷◌, length, codes, Option, None, Some}
use denote.Ref.{Bor}
use Rattle.std.specs.List.{slice_split}
use Rattle.std.specs.Option.{option_and_then}
use Rattle.line_words.specs.Blanks.{first_word, after_word}
use Rattle.spool_types.specs.Values.{is_queue_name, is_reason, is_message, text_in, media_in}
use Rattle.spool_types.specs.declared.phase.Policy.{Policy}
use Rattle.front_texts.specs.ReplyFields.{is_word, quoted_text, after_quoted, is_end, limit_in, interval_in, printer_state_of, policy_in, accepting_in}
use Rattle.front_texts.specs.declared.queue_line.QueueLine.{QueueLine}
use Rattle.front_texts.specs.declared.queue_line.QueueHead.{QueueHead}
use Rattle.front_texts.specs.declared.queue_line.QueueRules.{QueueRules}
use Rattle.front_texts.specs.declared.queue_line.QueueNotes.{QueueNotes}
use Rattle.front_texts.specs.declared.states.PrinterState.{PrinterState}

abbrev pub head_of : Option (List ℕ) → Option PrinterState → Option Bool → Option (List ℕ) → Option QueueHead
head_of (Some name) (Some state) (Some accepting) (Some target) = Some (record { name = name; state = state; accepting = accepting; target = target })
head_of name state accepting target = None

-- The first words of a row.
abbrev pub head_row : List ℕ → List ℕ → List ℕ → List ℕ → Option QueueHead
head_row name state accepting target = head_of (text_in is_queue_name name) (printer_state_of state) (accepting_in accepting) (media_in target)

abbrev pub rules_of : Option Policy → Option ℕ → Option ℕ → Option QueueRules
rules_of (Some policy) (Some interval) (Some limit) = Some (record { policy = policy; interval = interval; limit = limit })
rules_of policy interval limit = None

abbrev pub rules_row : List ℕ → List ℕ → List ℕ → Option QueueRules
rules_row policy interval limit = rules_of (policy_in policy) (interval_in interval) (limit_in limit)

-- One more text before the others, if these are texts.
abbrev pub with_text : Option (List ℕ) → Option (List (List ℕ)) → Option (List (List ℕ))
with_text (Some text) (Some texts) = Some (text ∷ texts)
with_text text texts = None

-- Words that are all texts of a type.
abbrev pub texts_in : (List ℕ → Bool) → List (List ℕ) → Option (List (List ℕ))
texts_in allowed [] = Some []
texts_in allowed (word ∷ words) = with_text (text_in allowed word) (texts_in allowed words)

abbrev pub now_of : Bor (List ℕ) → List ℕ
now_of part = part.now

abbrev pub is_comma : ℕ → Bool
is_comma b = b == 44

abbrev pub at_most : ℕ → List (List ℕ) → Option (List (List ℕ))
at_most most texts = cond (nat_le (length texts) most) (Some texts) None

-- The reasons in a word, which are separated by commas, or `none`.
abbrev pub reasons_in : List ℕ → Option (List (List ℕ))
reasons_in word = cond (is_word word (codes "none")) (Some []) (option_and_then (at_most 64) (texts_in is_reason (slice_split is_comma word)))

abbrev pub notes_of : Option (List (List ℕ)) → Option (List ℕ) → Option QueueNotes
notes_of (Some reasons) (Some message) = Some (record { reasons = reasons; message = message })
notes_of reasons message = None

abbrev pub notes_row : List ℕ → Option QueueNotes
notes_row line =
    let message = after_word line in
    cond (is_end (after_quoted message))
    (notes_of (reasons_in (first_word line)) (option_and_then (text_in is_message) (quoted_text message)))
    None

abbrev pub joined : Option QueueHead → Option QueueRules → Option QueueNotes → Option QueueLine
joined (Some head) (Some rules) (Some notes) = Some (record {
  name = head.name;
  state = head.state;
  accepting = head.accepting;
  target = head.target;
  policy = rules.policy;
  interval = rules.interval;
  limit = rules.limit;
  reasons = notes.reasons;
  message = notes.message;
})
joined head rules notes = None

-- The words of a row after `queue`.
abbrev pub queue_words : List ℕ → Option QueueLine
queue_words line =
    let state = after_word line in
    let accepting = after_word state in
    let target = after_word accepting in
    let policy = after_word target in
    let interval = after_word policy in
    let limit = after_word interval in
    joined
    (head_row (first_word line) (first_word state) (first_word accepting) (first_word target))
    (rules_row (first_word policy) (first_word interval) (first_word limit))
    (notes_row (after_word limit))

-- A row without its line feed.
abbrev pub queue_row : List ℕ → Option QueueLine
queue_row line = cond (is_word (first_word line) (codes "queue")) (queue_words (after_word line)) None
