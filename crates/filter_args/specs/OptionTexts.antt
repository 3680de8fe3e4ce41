-- The options of a text.
use Rattle.std.specs.Prelude.{ℕ, Bool, ◌&&◌, cond, ◌==◌, List, [], ◌∷◌, filter, drop, length, nat_le, nat_lt, nat_eq, slice_index, codes, Result, Ok, Err}
use Rattle.std.specs.List.{list_any, before_first, after_first, starts_with}
use Rattle.filter_args.specs.declared.fault.OptionFault.{OptionFault}
use Rattle.filter_args.specs.declared.fault.OptionFault.TheVariants.{BadName, Unclosed, Collection}
use Rattle.line_words.specs.declared.quoting.Quoting.{Quoting}
use Rattle.line_words.specs.declared.quoting.Quoting.TheVariants.{Bare}
use Rattle.filter_args.specs.Pairs.{Pair, is_option_name, put, put_all}
use Rattle.line_words.specs.Quoting.{next, is_bare, is_cut, said, place_after, pieces}

-- ## Words

-- The first of the pieces.
abbrev pub word_here : Quoting → List ℕ → List ℕ
word_here place [] = []
word_here place (b ∷ bs) = cond (is_cut place b) [] (b ∷ word_here (next place b) bs)

-- The bytes after the blank that ends it.
abbrev pub after_word : Quoting → List ℕ → List ℕ
after_word place [] = []
after_word place (b ∷ bs) = cond (is_cut place b) bs (after_word (next place b) bs)

abbrev pub is_some_bytes : List ℕ → Bool
is_some_bytes word = nat_le 1 (length word)

abbrev pub words_of : List ℕ → List (List ℕ)
words_of text = filter is_some_bytes (pieces Bare text)

-- ## The pair in a word

abbrev pub is_equals : ℕ → Bool
is_equals b = b == 61

-- A name alone is true, and false after "no".
abbrev pub bare_pair : List ℕ → Pair
bare_pair name = cond (nat_lt 2 (length name) && starts_with nat_eq name (codes "no")) (drop 2 name, codes "false") (name, codes "true")

-- A `{` at the start, without a quote or a backslash before it, opens a collection.
abbrev pub is_collection : List ℕ → Bool
is_collection raw = slice_index raw 0 == 123

abbrev pub value_without_quotes : List ℕ → Result (List ℕ) OptionFault
value_without_quotes raw = cond (is_bare (place_after Bare raw)) (Ok (said Bare raw)) (Err Unclosed)

abbrev pub value_in : List ℕ → Result (List ℕ) OptionFault
value_in raw = cond (is_collection raw) (Err Collection) (value_without_quotes raw)

abbrev pub named : List ℕ → Result (List ℕ) OptionFault → Result Pair OptionFault
named name (Ok value) = Ok (name, value)
named name (Err fault) = Err fault

abbrev pub bare_in : List ℕ → Result Pair OptionFault
bare_in name = cond (is_option_name name) (Ok (bare_pair name)) (Err BadName)

abbrev pub named_pair : List ℕ → List ℕ → Result Pair OptionFault
named_pair name raw = cond (is_option_name name) (named name (value_in raw)) (Err BadName)

-- A name alone, or a name, '=' and a value.
abbrev pub pair_in : List ℕ → Result Pair OptionFault
pair_in word =
    cond (list_any is_equals word)
    (named_pair (before_first is_equals word) (after_first is_equals word))
    (bare_in word)

-- ## The whole text

abbrev pub then_pairs : Result Pair OptionFault → Result (List Pair) OptionFault → Result (List Pair) OptionFault
then_pairs (Err fault) rest = Err fault
then_pairs (Ok p) (Err fault) = Err fault
then_pairs (Ok p) (Ok ps) = Ok (p ∷ ps)

-- The pairs of the words in order, or the first error.
abbrev pub pairs_in : List (List ℕ) → Result (List Pair) OptionFault
pairs_in [] = Ok []
pairs_in (w ∷ ws) = then_pairs (pair_in w) (pairs_in ws)

-- These options, and then the pairs that were read.
abbrev pub joined : List Pair → Result (List Pair) OptionFault → Result (List Pair) OptionFault
joined qs (Ok ps) = Ok (put_all qs ps)
joined qs (Err fault) = Err fault

-- A word's pair, added to these options. An empty word has none.
abbrev pub put_read : List Pair → Result Pair OptionFault → Result (List Pair) OptionFault
put_read qs (Ok p) = Ok (put qs p)
put_read qs (Err fault) = Err fault

abbrev pub with_word : List Pair → List ℕ → Result (List Pair) OptionFault
with_word qs word = cond (is_some_bytes word) (put_read qs (pair_in word)) (Ok qs)

-- The options of a text, or its first error.
abbrev pub reading : List ℕ → Result (List Pair) OptionFault
reading text = joined [] (pairs_in (words_of text))
