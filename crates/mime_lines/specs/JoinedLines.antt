-- The lines of a file of mime.types(5) or mime.convs(5), each with the lines that backslashes join to it.
use Rattle.std.specs.Prelude.{ℕ, suc, Bool, true, false, ◌&&◌, cond, ◌==◌, List, [], ◌∷◌, ◌++◌, Option, None, Some, is_none}
use Rattle.line_words.specs.Blanks.{after_blanks}

-- A line feed comes next.
abbrev pub is_lf_next : List ℕ → Bool
is_lf_next [] = false
is_lf_next (b ∷ bs) = b == 10

-- The text without each carriage return before a line feed.
abbrev pub without_crs : List ℕ → List ℕ
without_crs [] = []
without_crs (b ∷ bs) = cond ((b == 13) && is_lf_next bs) (without_crs bs) (b ∷ without_crs bs)

-- A byte in front of the first line.
abbrev pub with_byte : ℕ → List (List ℕ) → List (List ℕ)
with_byte b [] = (b ∷ []) ∷ []
with_byte b (line ∷ lines) = (b ∷ line) ∷ lines

-- A line ends with its line feed, and the last line needs none.
abbrev pub cut : List ℕ → List (List ℕ)
cut [] = []
cut (b ∷ bs) = cond (b == 10) ([] ∷ cut bs) (with_byte b (cut bs))

abbrev pub lines_of : List ℕ → List (List ℕ)
lines_of text = cut (without_crs text)

-- Empty, or a comment.
abbrev pub is_nothing_or_remark : List ℕ → Bool
is_nothing_or_remark [] = true
is_nothing_or_remark (b ∷ bs) = b == 35

-- Only blanks, or a comment: the first byte that is not a blank is `#`.
abbrev pub is_silent : List ℕ → Bool
is_silent line = is_nothing_or_remark (after_blanks line)

-- A backslash at the end joins the next line.
abbrev pub is_continued : List ℕ → Bool
is_continued [] = false
is_continued (b ∷ []) = b == 92
is_continued (b ∷ c ∷ bs) = is_continued (c ∷ bs)

abbrev pub without_last : List ℕ → List ℕ
without_last [] = []
without_last (b ∷ []) = []
without_last (b ∷ c ∷ bs) = b ∷ without_last (c ∷ bs)

-- The text without a carriage return at its end.
abbrev pub without_cr : List ℕ → List ℕ
without_cr [] = []
without_cr (b ∷ []) = cond (b == 13) [] (b ∷ [])
without_cr (b ∷ c ∷ bs) = b ∷ without_cr (c ∷ bs)

-- A joined line, with the number of its first line.
pub record Line : Type 0 where
  pub number : ℕ
  pub text : List ℕ

-- The line with this text, which is line n of the file, or the open line continued with it.
abbrev pub with_line : Option Line → ℕ → List ℕ → Line
with_line None n text = record { number = n; text = text }
with_line (Some line) n text = record line { text = line.text ++ 32 ∷ text }

-- The same without its backslash.
abbrev pub left_open : Line → Line
left_open line = record line { text = without_last line.text }

-- A line that is open at the end is complete.
abbrev pub at_end : Option Line → List Line
at_end None = []
at_end (Some line) = line ∷ []

-- The joined lines from line n of the file on. A backslash may have left a line open.
abbrev pub joined_from : ℕ → Option Line → List (List ℕ) → List Line
joined_from n begun [] = at_end begun
joined_from n begun (text ∷ texts) =
    cond (is_none begun && is_silent text) (joined_from (suc n) None texts)
    (cond (is_continued text) (joined_from (suc n) (Some (left_open (with_line begun n text))) texts)
    (with_line begun n text ∷ joined_from (suc n) None texts))

-- The lines of a file without blank lines and comments.
abbrev pub joined_lines : List ℕ → List Line
joined_lines text = joined_from 1 None (lines_of text)
