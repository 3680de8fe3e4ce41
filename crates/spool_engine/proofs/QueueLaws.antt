-- The lines of the queues: a queue is processing if the table returns its processing job.
use Rattle.std.proofs.Common.{◌≡◌, ℕ, ◌+◌, ◌<◌, ◌≤◌, Bool, true, false, List, [], ◌∷◌, ◌++◌, length, take, get_or, refl, sym, ap, ◌∙◌, append-nil, append_assoc}
use Rattle.std.specs.Prelude.{is_some}
use Rattle.std.specs.List.{find, flat_map, list_any}
use Rattle.std.specs.Option.{option_map}
use Rattle.std.proofs.lemmas.Grind.{flat_map-append}
use Rattle.std.proofs.lemmas.List.Concat.{flat_map-cons}
use Rattle.std.proofs.lemmas.List.{take_all, take_more}
use Rattle.spool_types.specs.Busy.{is_busy}
use Rattle.spool_types.specs.State.{Job}
use Rattle.spool_types.specs.declared.rows.QueueRow.{QueueRow}
use Rattle.command_lines.specs.Replies.{queue_text, queues_lines}

abbrev line : List Job → QueueRow → List ℕ
line jobs q = queue_text (is_busy jobs q.name) q

-- An element is found exactly if some element passes the test, whatever is returned of it.
pub found_any : {X : Type 0} (f : X → ℕ) (p : X → Bool) (xs : List X) → is_some (option_map f (find p xs)) ≡ list_any p xs
found_any f p [] = refl
found_any f p (x ∷ xs) = either (p x) refl (found_any f p xs)
  where
    either : (b : Bool) → p x ≡ b → is_some (option_map f (find p xs)) ≡ list_any p xs → is_some (option_map f (find p (x ∷ xs))) ≡ list_any p (x ∷ xs)
    either true is rest = rw is refl
    either false is rest = rw is rest

one : {X : Type 0} (f : X → List ℕ) (x : X) → flat_map f (x ∷ []) ≡ f x
one f x = flat_map-cons f x [] ∙ append-nil (f x)

-- The line of one more queue was appended.
pub lines_more : (jobs : List Job) (rows : List QueueRow) (i : ℕ) (row : QueueRow) (initial before after : List ℕ) → i < length rows → row ≡ get_or rows i row
    → before ≡ initial ++ queues_lines jobs (take i rows) → after ≡ before ++ queue_text (is_busy jobs row.name) row → after ≡ initial ++ queues_lines jobs (take (i + 1) rows)
lines_more jobs rows i row initial before after inside is so_far added =
    let last = get_or rows i row in
    let more : take (i + 1) rows ≡ take i rows ++ last ∷ [] = take_more rows i row inside in
    added
    ∙ ap (λ (text : List ℕ). text ++ line jobs row) so_far
    ∙ append_assoc initial (queues_lines jobs (take i rows)) (line jobs row)
    ∙ ap (λ (text : List ℕ). initial ++ (queues_lines jobs (take i rows) ++ text)) (ap (line jobs) is ∙ sym (one (line jobs) last))
    ∙ ap (λ (text : List ℕ). initial ++ text) (sym (flat_map-append (line jobs) (take i rows) (last ∷ [])) ∙ ap (queues_lines jobs) (sym more))

-- The lines of all queues were appended.
pub lines_all : (jobs : List Job) (rows queues : List QueueRow) (n : ℕ) (initial text : List ℕ) → length rows ≤ n → rows ≡ queues
    → text ≡ initial ++ queues_lines jobs (take n rows) → text ≡ initial ++ queues_lines jobs queues
lines_all jobs rows queues n initial text past is so_far = so_far ∙ ap (λ rs. initial ++ queues_lines jobs rs) (take_all n rows past ∙ is)
