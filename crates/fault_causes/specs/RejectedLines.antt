-- The first line of a programs file that is rejected.
use Rattle.std.specs.Prelude.{ℕ, Bool, true, false, ◌&&◌, ◌||◌, not, cond, List, [], ◌∷◌, ◌++◌, length, Option, None, Some, is_some}
use Rattle.std.specs.List.{list_any}
use Rattle.program_lists.specs.ProgramLines.{lines_of}
use Rattle.program_lists.specs.Programs.{Programs, program_named, programs_in, reads}
use Rattle.program_lists.specs.declared.line.Listed.{Listed}

-- A program of the list has this name.
abbrev pub has_name : {K : Type 0} → List ℕ → List (Listed K) → Bool
has_name name list = is_some (program_named name list)

-- A program of the list has the name of one of the others.
abbrev pub has_name_of : {K : Type 0} → List (Listed K) → List (Listed K) → Bool
has_name_of others list = list_any (λ listed. has_name listed.name others) list

-- Both lists have a filter or a backend of the same name, or a program of the side channel.
abbrev pub shares_program : Programs → Programs → Bool
shares_program earlier list =
    has_name_of earlier.filters list.filters || has_name_of earlier.backends list.backends || (is_some earlier.side && is_some list.side)

-- The number of lines before the first that is no list of programs, or is about a program of an earlier line, and whether it is no list.
-- `earlier` are the programs of the lines before these ones.
abbrev pub rejected_after : List Programs → List (List ℕ) → Option (ℕ × Bool)
rejected_after earlier [] = None
rejected_after earlier (line ∷ lines) =
    cond (not (reads line)) (Some (length earlier, true))
    (cond (list_any (λ before. shares_program before (programs_in line)) earlier) (Some (length earlier, false))
    (rejected_after (earlier ++ programs_in line ∷ []) lines))

abbrev pub rejected_line : List ℕ → Option (ℕ × Bool)
rejected_line text = rejected_after [] (lines_of text)
