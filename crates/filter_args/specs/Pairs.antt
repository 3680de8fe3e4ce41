-- Options: unique names with their values.
use Rattle.std.specs.Prelude.{ℕ, Bool, true, ◌&&◌, not, cond, List, [], ◌∷◌, length, nat_le, Option, None, Some}
use Rattle.std.specs.List.{list_all, list_any}
use Rattle.std.specs.Str.{bytes_eq}
use Rattle.spool_types.specs.Values.{is_word_byte}

-- A name and its value.
abbrev pub Pair : Type 0
Pair = List ℕ × List ℕ

-- One or more letters, digits, '-', '_' and '.'.
abbrev pub is_option_name : List ℕ → Bool
is_option_name name = nat_le 1 (length name) && list_all is_word_byte name

-- An existing name keeps its position and takes the value. A new name comes last.
abbrev pub put : List Pair → Pair → List Pair
put [] p = p ∷ []
put (q ∷ qs) p = cond (bytes_eq p.0 q.0) ((q.0, p.1) ∷ qs) (q ∷ put qs p)

-- The pairs in order.
abbrev pub put_all : List Pair → List Pair → List Pair
put_all qs [] = qs
put_all qs (p ∷ ps) = put_all (put qs p) ps

-- The value of a name.
abbrev pub value_of : List ℕ → List Pair → Option (List ℕ)
value_of name [] = None
value_of name (q ∷ qs) = cond (bytes_eq name q.0) (Some q.1) (value_of name qs)

-- The name is among the pairs.
abbrev pub is_among : List ℕ → List Pair → Bool
is_among name qs = list_any (λ q. bytes_eq name q.0) qs

-- Each name is valid and unique.
abbrev pub are_options : List Pair → Bool
are_options [] = true
are_options (q ∷ qs) = is_option_name q.0 && (not (is_among q.0 qs) && are_options qs)
