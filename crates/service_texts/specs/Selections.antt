-- The jobs that a listing shows, and the words that select them.
use Rattle.std.specs.Prelude.{ℕ, cond, List, [], ◌∷◌, codes, Option, None, Some, is_some, unwrap_or}
use Rattle.std.specs.Option.{option_map, option_and_then}
use Rattle.spool_types.specs.Values.{is_user_name, text_in}
use Rattle.command_lines.specs.CommandNumbers.{ranged}
use Rattle.command_lines.specs.CommandGrammar.{is_word, queue_in, job_in}
use Rattle.service_texts.specs.declared.selection.Selection.{Selection}

abbrev pub all_jobs : Selection
all_jobs = record { queue = None; state = None; user = None; from = None; most = None }

-- The lowest number that is shown.
abbrev pub from_of : Selection → ℕ
from_of s = unwrap_or s.from 1

-- The most jobs that are shown.
abbrev pub most_of : Selection → ℕ
most_of s = unwrap_or s.most 50

-- ## The words

abbrev pub state_in : List ℕ → Option ℕ
state_in word = ranged 3 9 word

abbrev pub most_in : List ℕ → Option ℕ
most_in word = ranged 1 100 word

-- Each key at most once.
abbrev pub once : {A : Type 0} → Option A → Option Selection → Option Selection
once there added = cond (is_some there) None added

abbrev pub with_queue : Selection → List ℕ → Option Selection
with_queue s value = once s.queue (option_map (λ queue. record s { queue = Some queue }) (queue_in value))

abbrev pub with_state : Selection → List ℕ → Option Selection
with_state s value = once s.state (option_map (λ state. record s { state = Some state }) (state_in value))

abbrev pub with_user : Selection → List ℕ → Option Selection
with_user s value = once s.user (option_map (λ user. record s { user = Some user }) (text_in is_user_name value))

abbrev pub with_from : Selection → List ℕ → Option Selection
with_from s value = once s.from (option_map (λ job. record s { from = Some job }) (job_in value))

abbrev pub with_most : Selection → List ℕ → Option Selection
with_most s value = once s.most (option_map (λ most. record s { most = Some most }) (most_in value))

-- The selection with a further key and its value.
abbrev pub with_key : Selection → List ℕ → List ℕ → Option Selection
with_key s key value =
    cond (is_word key (codes "queue")) (with_queue s value)
    (cond (is_word key (codes "state")) (with_state s value)
    (cond (is_word key (codes "user")) (with_user s value)
    (cond (is_word key (codes "from")) (with_from s value)
    (cond (is_word key (codes "most")) (with_most s value)
    None))))

-- The keys and their values, in any order.
abbrev pub selection_in : Selection → List (List ℕ) → Option Selection
selection_in s [] = Some s
selection_in s (key ∷ []) = None
selection_in s (key ∷ value ∷ words) = option_and_then (λ selection. selection_in selection words) (with_key s key value)
