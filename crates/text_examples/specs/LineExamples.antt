-- Examples of joined lines, and of numbers.
use Rattle.std.specs.Prelude.{◌≡◌, List, [], ◌∷◌, ℕ, map, None, Some}
use Rattle.std.specs.Option.{option_map}
use Rattle.mime_lines.specs.JoinedLines.{Line, joined_lines}
use Rattle.mime_lines.specs.RuleNumbers.{number_of, told}
use Rattle.mime_lines.specs.declared.numbers.Number.TheVariants.{Fits, TooGreat}
use Rattle.text_examples.specs.Written.{text}

abbrev pub texts : List ℕ → List (List ℕ)
texts file = map (λ (l : Line). l.text) (joined_lines file)

abbrev pub numbers : List ℕ → List ℕ
numbers file = map (λ (l : Line). l.number) (joined_lines file)

-- A backslash joins the next line.
abbrev pub JoinedRows : Type 0
JoinedRows = texts (text "a \\|b\\|# c|d\\") ≡ text "a  b # c" ∷ text "d" ∷ []

-- Blank lines and remarks have no meaning.
abbrev pub SilentRows : Type 0
SilentRows = texts (text "| ~$|  # x\\|a$|b$") ≡ text "a" ∷ text "b$" ∷ []

-- A joined line has the number of its first line.
abbrev pub LineNumberRows : Type 0
LineNumberRows = numbers (text "#|a\\|b|c") ≡ 2 ∷ 4 ∷ []

-- Numbers have three bases.
abbrev pub NumberRows : Type 0
NumberRows = map (λ word. option_map told (number_of word)) (text "120" ∷ text "0x1F" ∷ text "017" ∷ text "0" ∷ text "4294967295" ∷ [])
    ≡ Some (Fits 120) ∷ Some (Fits 31) ∷ Some (Fits 15) ∷ Some (Fits 0) ∷ Some (Fits 4294967295) ∷ []

-- A number that is too great, and words that are no number.
abbrev pub NoNumberRows : Type 0
NoNumberRows = map (λ word. option_map told (number_of word)) (text "4294967296" ∷ text "08" ∷ text "0x" ∷ text "0X1" ∷ [] ∷ [])
    ≡ Some TooGreat ∷ None ∷ None ∷ None ∷ None ∷ []
