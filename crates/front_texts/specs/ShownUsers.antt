-- The user of a job as the service shows it.
use Rattle.std.specs.Prelude.{ℕ, Bool, List, [], ◌∷◌, codes}
use Rattle.spool_types.specs.Values.{is_plain, is_text_of}

-- A user's name, or the empty text if the service does not show whose the job is.
abbrev pub is_shown_user : List ℕ → Bool
is_shown_user text = is_text_of is_plain 0 255 text

-- A hidden user has a word, so that each line has the same number of words.
abbrev pub owner_word : List ℕ → List ℕ
owner_word [] = codes "unknown"
owner_word (b ∷ bs) = b ∷ bs
