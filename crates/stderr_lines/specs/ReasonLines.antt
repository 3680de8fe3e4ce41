-- The reasons that a line sets, adds or removes: `STATE: word,..`, `STATE: +word,..`, `STATE: -word,..`.
use Rattle.std.specs.Prelude.{ℕ, Bool, ◌||◌, cond, ◌==◌, List, [], ◌∷◌, filter, Option, None, Some}
use Rattle.std.specs.List.{slice_split}
use Rattle.line_words.specs.Blanks.{is_blank}
use Rattle.spool_types.specs.Values.{is_reason}
use Rattle.spool_types.specs.declared.effect.Effect.{Effect}
use Rattle.spool_types.specs.declared.effect.Effect.TheVariants.{SetReasons, AddReasons, DropReasons}

-- A comma or a blank.
abbrev pub is_separator : ℕ → Bool
is_separator b = (b == 44) || is_blank b

-- The parts between separators that are reasons.
abbrev pub reasons_of : List ℕ → List (List ℕ)
reasons_of text = filter is_reason (slice_split is_separator text)

-- An effect of no reasons is no effect.
abbrev pub unless_none : (List (List ℕ) → Effect) → List (List ℕ) → Option Effect
unless_none effect [] = None
unless_none effect (word ∷ words) = Some (effect (word ∷ words))

abbrev pub state_effect : List ℕ → Option Effect
state_effect [] = Some (SetReasons [])
state_effect (b ∷ bs) =
    cond (b == 43) (unless_none (λ words. AddReasons words) (reasons_of bs))
    (cond (b == 45) (unless_none (λ words. DropReasons words) (reasons_of bs))
    (Some (SetReasons (reasons_of (b ∷ bs)))))
