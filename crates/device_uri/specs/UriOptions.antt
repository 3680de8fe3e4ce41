-- The options of a device's URI: the pairs of its query.
use Rattle.std.specs.Prelude.{ℕ, Bool, ◌||◌, ◌==◌, nat_lt, List, [], length, map, unwrap_or}
use Rattle.std.specs.List.{list_any}
use Rattle.std.specs.Str.Lossy.{utf8_lossy}
use Rattle.form_urlencoded.specs.Form.{raw_pairs, decode}
use Rattle.url.specs.Parts.{Parts}

-- The text of a name or a value: `+` is a blank, escapes are decoded, and U+FFFD replaces bytes that are not UTF-8.
abbrev pub text_of : List ℕ → List ℕ
text_of bytes = utf8_lossy (decode bytes)

-- The pairs of a query as they are written, none if the URL has no query.
abbrev pub pairs_of : Parts → List (List ℕ × List ℕ)
pairs_of url = raw_pairs (unwrap_or url.query [])

-- A decoded name and its decoded value.
abbrev pub option_of : List ℕ × List ℕ → List ℕ × List ℕ
option_of (name, value) = (text_of name, text_of value)

-- All options of a URL, in order.
abbrev pub options_of : Parts → List (List ℕ × List ℕ)
options_of url = map option_of (pairs_of url)

abbrev pub has_no_name : List ℕ × List ℕ → Bool
has_no_name (name, value) = length name == 0

-- More than 64 pairs, or one without a name.
abbrev pub is_bad : List (List ℕ × List ℕ) → Bool
is_bad pairs = nat_lt 64 (length pairs) || list_any has_no_name pairs
