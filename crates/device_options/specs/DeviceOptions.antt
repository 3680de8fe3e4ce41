-- The options of a device's URI for a backend.
use Rattle.std.specs.Prelude.{ℕ, cond, List, [], ◌∷◌, Option, None, Some}
use Rattle.std.specs.Str.{bytes_eq}
use Rattle.url.specs.Parts.{Parts}
use Rattle.device_uri.specs.UriOptions.{pairs_of, options_of, is_bad}

-- A name and its value.
abbrev pub Pair : Type 0
Pair = List ℕ × List ℕ

-- The options of a URL, and none if one has no name or there are too many.
abbrev pub options_or_none : Parts → List Pair
options_or_none url = cond (is_bad (pairs_of url)) [] (options_of url)

-- The value of a pair, if it has this name.
abbrev pub value_if : List ℕ → Pair → Option (List ℕ)
value_if name (key, value) = cond (bytes_eq key name) (Some value) None

-- The first value if it exists, otherwise the second.
abbrev pub or_else : Option (List ℕ) → Option (List ℕ) → Option (List ℕ)
or_else None other = other
or_else (Some value) other = Some value

-- The value of the last pair of this name.
abbrev pub last_value : List ℕ → List Pair → Option (List ℕ)
last_value name [] = None
last_value name (pair ∷ pairs) = or_else (last_value name pairs) (value_if name pair)
