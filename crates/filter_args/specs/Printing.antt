-- The text of options.
use Rattle.std.specs.Prelude.{ℕ, Bool, ◌||◌, cond, List, [], ◌∷◌, ◌++◌}
use Rattle.std.specs.List.{flat_map}
use Rattle.line_words.specs.Blanks.{is_blank}
use Rattle.filter_args.specs.Pairs.{Pair}
use Rattle.line_words.specs.Quoting.{is_quoting}
use Rattle.filter_args.specs.OptionTexts.{is_collection}

-- A blank, a quote or a backslash.
abbrev pub is_special : ℕ → Bool
is_special b = is_blank b || is_quoting b

-- A backslash before each special byte.
abbrev pub escaped : List ℕ → List ℕ
escaped [] = []
escaped (b ∷ bs) = cond (is_special b) (92 ∷ b ∷ escaped bs) (b ∷ escaped bs)

-- The same, with a backslash before a `{` at the start.
abbrev pub printed_value : List ℕ → List ℕ
printed_value value = cond (is_collection value) (92 ∷ escaped value) (escaped value)

abbrev pub printed_pair : Pair → List ℕ
printed_pair p = p.0 ++ 61 ∷ printed_value p.1

abbrev pub after_blank : Pair → List ℕ
after_blank p = 32 ∷ printed_pair p

-- The pairs with one blank between them.
abbrev pub printed : List Pair → List ℕ
printed [] = []
printed (p ∷ ps) = printed_pair p ++ flat_map after_blank ps
