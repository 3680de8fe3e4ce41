-- The answers of a case's child.
use Rattle.std.specs.Prelude.{◌≡◌, ◌≢◌, ◌⊎◌, ◌==◌, ℕ, Bool, true, false, List, [], ◌∷◌, ◌++◌, codes, Option, None, Some}
use Rattle.std.specs.List.{before_first}
use Rattle.child_pipeline.specs.declared.order.Finish.{Finish}
use Rattle.spool_scripts.specs.declared.outcomes.Outcome.{Outcome}
use Rattle.spool_scripts.specs.declared.outcomes.Outcome.TheVariants.{NoStart, Unknown, Ended}

-- The answer to its start.
abbrev pub is_started : Outcome → Bool
is_started NoStart = false
is_started Unknown = true
is_started (Ended finish) = true

-- The answer to the wait for its end, if it was started.
abbrev pub ends_of : Outcome → List (Option Finish)
ends_of NoStart = []
ends_of Unknown = None ∷ []
ends_of (Ended finish) = Some finish ∷ []

-- The text up to the first line feed.
abbrev pub first_line : List ℕ → List ℕ
first_line text = before_first (λ b. b == 10) text

-- The word for the answer of a poll, with the blank before it.
abbrev pub look_word : Bool → List ℕ
look_word true = codes " yes"
look_word false = codes " no"

abbrev pub look_words : List Bool → List ℕ
look_words [] = []
look_words (ended ∷ rest) = look_word ended ++ look_words rest

-- The first line lists the answers of polls as `looks`, followed by a word for each. Any other line lists none.
abbrev pub TellsLooks : List ℕ → List Bool → Type 0
TellsLooks line looks =
    (line ≡ codes "looks" ++ look_words looks)
    ⊎ (((rest : List ℕ) → line ≢ codes "looks" ++ rest) × (looks ≡ []))
