-- The replies to `i-am` and `made`.
use Rattle.std.specs.Prelude.{◌≡◌, ℕ, Bool, true, false, ◌&&◌, ◌||◌, not, cond, ◌==◌, nat_lt, List, [], ◌∷◌, codes, Option, None, Some, IsUtf8}
use Rattle.std.specs.List.{list_any}
use Rattle.std.specs.Str.{bytes_eq}
use Rattle.line_words.specs.Blanks.{after_blanks, first_word, after_word}
use Rattle.line_words.specs.Quotes.{is_quote, QuotedFront, quoted}
use Rattle.front_proof.specs.ProofPaths.{IsPathOf}
use Rattle.front_proof.specs.Standings.{Standing, unproved, user, operator}

abbrev pub is_empty : List ℕ → Bool
is_empty [] = true
is_empty (b ∷ bs) = false

-- Only blanks follow.
abbrev pub is_end : List ℕ → Bool
is_end rest = is_empty (after_blanks rest)

-- ## Texts

-- A text that nothing follows.
abbrev pub alone : QuotedFront → Option (List ℕ)
alone None = None
alone (Some (text, rest)) = cond (is_end rest) (Some text) None

-- The text of a line that consists of one text in quotes.
abbrev pub quoted_line : List ℕ → Option (List ℕ)
quoted_line [] = None
quoted_line (b ∷ bs) = cond (is_quote b) (alone (quoted false bs)) None

-- The words `ok` and `word` begin the line.
abbrev pub grants : List ℕ → List ℕ → Bool
grants word line = bytes_eq (first_word line) (codes "ok") && bytes_eq (first_word (after_word line)) word

-- What follows these two words.
abbrev pub granted : List ℕ → List ℕ
granted line = after_blanks (after_word (after_word line))

-- ## Replies to `i-am`

-- The text PATH in `ok proof "PATH"`.
abbrev pub offered_text : List ℕ → Option (List ℕ)
offered_text line = cond (grants (codes "proof") line) (quoted_line (granted line)) None

abbrev pub IsPathIn : Option (List ℕ) → Option (List ℕ) → Type 0
IsPathIn None path = path ≡ None
IsPathIn (Some text) path = IsPathOf text path

-- The path that the reply offers, if the text is the path of a folder for a proof.
abbrev pub IsOfferedIn : List ℕ → Option (List ℕ) → Type 0
IsOfferedIn line path = IsPathIn (offered_text line) path

-- ## Replies to `made`

abbrev pub is_control : ℕ → Bool
is_control b = nat_lt b 32 || (b == 127)

-- A name is not empty and contains no control character.
abbrev pub is_name : List ℕ → Bool
is_name text = not (is_empty text) && not (list_any is_control text)

abbrev pub name_in : List ℕ → Option (List ℕ)
name_in text = cond (is_name text) (Some text) None

-- The name of a text, which is `None` if the text is not UTF-8.
abbrev pub IsNameOf : List ℕ → Option (List ℕ) → Type 0
IsNameOf text name = (IsUtf8 text → name ≡ name_in text) × (¬ (IsUtf8 text) → name ≡ None)

abbrev pub known_as : (List ℕ → Standing) → List ℕ → Standing
known_as standing name = cond (is_name name) (standing name) unproved

-- `ok user NAME` or `ok operator NAME`. The name ends with the line. After any other reply the client is unproved.
abbrev pub standing_in : List ℕ → Standing
standing_in line =
    cond (grants (codes "user") line) (known_as user (granted line))
    (cond (grants (codes "operator") line) (known_as operator (granted line))
    unproved)

-- The name of a proved client.
abbrev pub name_of : Standing → Option (List ℕ)
name_of unproved = None
name_of (user name) = Some name
name_of (operator name) = Some name

-- The name of a user who is no operator.
abbrev pub user_of : Standing → Option (List ℕ)
user_of (user name) = Some name
user_of standing = None

-- A client whose name is not UTF-8 is unproved.
abbrev pub IsStandingIn : List ℕ → Standing → Type 0
IsStandingIn line standing =
    (IsUtf8 (granted line) → standing ≡ standing_in line) × (¬ (IsUtf8 (granted line)) → standing ≡ unproved)
