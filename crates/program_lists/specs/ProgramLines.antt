-- The contents of the lines of a text.
use Rattle.std.specs.Prelude.{ℕ, Bool, true, false, not, cond, nat_eq, ◌==◌, List, [], ◌∷◌, length, codes, map, filter, Option, None, Some}
use Rattle.std.specs.List.{slice_split, take_while}
use Rattle.std.specs.Cmp.Lexicographic.{pointwise}
use Rattle.line_words.specs.Blanks.{is_blank}
use Rattle.spool_types.specs.Values.{is_filter_name, text_in}
use Rattle.program_lists.specs.ProgramWords.{is_path, is_word, is_scheme}
use Rattle.spool_types.specs.declared.kinds.FilterNameKind.{FilterNameKind}
use Rattle.program_lists.specs.declared.kinds.BackendNameKind.{BackendNameKind}
use Rattle.program_lists.specs.declared.line.Listed.{Listed}
use Rattle.program_lists.specs.declared.line.ListedProgram.{ListedProgram}
use Rattle.program_lists.specs.declared.line.Said.{Said}
use Rattle.program_lists.specs.declared.line.Said.TheVariants.{Nothing, Filter, Backend, Side, Unread}

-- The same bytes.
abbrev pub same : List ℕ → List ℕ → Bool
same text other = pointwise nat_eq text other

-- A line ends with its line feed. The bytes after the last line feed are a line too.
abbrev pub lines_of : List ℕ → List (List ℕ)
lines_of text = slice_split (λ b. b == 10) text

-- ## The words of a line

abbrev pub is_empty : List ℕ → Bool
is_empty word = length word == 0

-- A word begins at the line's start or after a blank, so a comment begins with a word that begins with `#`.
abbrev pub begins_remark : List ℕ → Bool
begins_remark [] = false
begins_remark (b ∷ bs) = b == 35

-- The words between the blanks, up to the comment.
abbrev pub words_of : List ℕ → List (List ℕ)
words_of line = take_while (λ word. not (begins_remark word)) (filter (λ word. not (is_empty word)) (slice_split is_blank line))

-- ## The contents of words

-- [WORD].
abbrev pub some_word : Option (List ℕ) → Option (Option (List ℕ))
some_word None = None
some_word (Some word) = Some (Some word)

abbrev pub word_in : List (List ℕ) → Option (Option (List ℕ))
word_in [] = Some None
word_in (word ∷ []) = some_word (text_in is_word word)
word_in (word ∷ more ∷ others) = None

-- PATH [WORD], of a program that keeps the user of the spooler or not.
abbrev pub with_path : Bool → Option (List ℕ) → Option (Option (List ℕ)) → Option ListedProgram
with_path keeps_user (Some path) (Some word) = Some (record { path = path; word = word; keeps_user = keeps_user })
with_path keeps_user path word = None

abbrev pub program_in : Bool → List (List ℕ) → Option ListedProgram
program_in keeps_user [] = None
program_in keeps_user (path ∷ words) = with_path keeps_user (text_in is_path path) (word_in words)

-- NAME PATH [WORD], with a name of this kind.
abbrev pub with_name : {K : Type 0} → Option (List ℕ) → Option ListedProgram → Option (Listed K)
with_name (Some name) (Some program) = Some (record { name = name; program = program })
with_name name program = None

abbrev pub listed_in : {K : Type 0} → Bool → (List ℕ → Bool) → List (List ℕ) → Option (Listed K)
listed_in keeps_user allowed [] = None
listed_in keeps_user allowed (name ∷ words) = with_name (text_in allowed name) (program_in keeps_user words)

abbrev pub as_filter : Option (Listed FilterNameKind) → Said
as_filter None = Unread
as_filter (Some listed) = Filter listed

abbrev pub as_backend : Option (Listed BackendNameKind) → Said
as_backend None = Unread
as_backend (Some listed) = Backend listed

abbrev pub as_side : Option ListedProgram → Said
as_side None = Unread
as_side (Some program) = Side program

-- The contents of a line with these words. Only a backend of a line `root-backend` keeps the user of the spooler.
abbrev pub said_by : List (List ℕ) → Said
said_by [] = Nothing
said_by (kind ∷ words) =
    cond (same kind (codes "filter")) (as_filter (listed_in false is_filter_name words))
    (cond (same kind (codes "backend")) (as_backend (listed_in false is_scheme words))
    (cond (same kind (codes "root-backend")) (as_backend (listed_in true is_scheme words))
    (cond (same kind (codes "side")) (as_side (program_in false words)) Unread)))

-- The contents of the lines of a text, in order.
abbrev pub said_in : List ℕ → List Said
said_in text = map (λ line. said_by (words_of line)) (lines_of text)
