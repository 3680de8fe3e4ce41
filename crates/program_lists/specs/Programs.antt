-- The programs of a text.
use Rattle.std.specs.Prelude.{ℕ, Bool, true, false, ◌&&◌, not, nat_le, List, [], ◌∷◌, ◌++◌, length, Option, None, Some, is_none, refl}
use Rattle.std.specs.List.{list_all, list_any, flat_map, find}
use Rattle.std.specs.Option.{option_map}
use Rattle.std.specs.Coded.{Coded, code_by, coded×, coded_bool, coded_list, coded_option, coded_ℕ}
use Rattle.program_lists.specs.ProgramLines.{same, said_in}
use Rattle.spool_types.specs.declared.kinds.FilterNameKind.{FilterNameKind}
use Rattle.program_lists.specs.declared.kinds.BackendNameKind.{BackendNameKind}
use Rattle.program_lists.specs.declared.line.Listed.{Listed}
use Rattle.program_lists.specs.declared.line.ListedProgram.{ListedProgram}
use Rattle.program_lists.specs.declared.line.Said.{Said}
use Rattle.program_lists.specs.declared.line.Said.TheVariants.{Nothing, Filter, Backend, Side, Unread}

-- The filters and the backends in order, and the program of the side channel.
pub record Programs : Type 0 where
  pub filters : List (Listed FilterNameKind)
  pub backends : List (Listed BackendNameKind)
  pub side : Option ListedProgram

abbrev pub no_programs : Programs
no_programs = record { filters = []; backends = []; side = None }

-- ## The programs of a text

abbrev pub filters_said : Said → List (Listed FilterNameKind)
filters_said (Filter listed) = listed ∷ []
filters_said said = []

abbrev pub backends_said : Said → List (Listed BackendNameKind)
backends_said (Backend listed) = listed ∷ []
backends_said said = []

abbrev pub sides_said : Said → List ListedProgram
sides_said (Side program) = program ∷ []
sides_said said = []

abbrev pub first : List ListedProgram → Option ListedProgram
first [] = None
first (program ∷ programs) = Some program

-- Each line's program, in the order of the lines.
abbrev pub programs_of : List Said → Programs
programs_of said = record { filters = flat_map filters_said said; backends = flat_map backends_said said; side = first (flat_map sides_said said) }

abbrev pub programs_in : List ℕ → Programs
programs_in text = programs_of (said_in text)

-- ## Whether a text is accepted

abbrev pub is_read : Said → Bool
is_read Unread = false
is_read said = true

abbrev pub is_named : {K : Type 0} → List ℕ → Listed K → Bool
is_named name listed = same listed.name name

-- No name occurs twice.
abbrev pub are_distinct : {K : Type 0} → List (Listed K) → Bool
are_distinct [] = true
are_distinct (listed ∷ others) = not (list_any (λ other. is_named other.name listed) others) && are_distinct others

abbrev pub is_at_most_one : {A : Type 0} → List A → Bool
is_at_most_one list = nat_le (length list) 1

-- Each line is valid, no name occurs twice in its kind, and at most one line is of the side channel.
abbrev pub reads_of : List Said → Bool
reads_of said =
    (list_all is_read said && are_distinct (flat_map filters_said said))
    && (are_distinct (flat_map backends_said said) && is_at_most_one (flat_map sides_said said))

abbrev pub reads : List ℕ → Bool
reads text = reads_of (said_in text)

-- ## The program of a name

abbrev pub program_of : {K : Type 0} → Listed K → ListedProgram
program_of listed = listed.program

abbrev pub program_named : {K : Type 0} → List ℕ → List (Listed K) → Option ListedProgram
program_named name list = option_map program_of (find (is_named name) list)

-- ## Between the lines of a text. Internal: no caller needs it.

-- A further line is valid, and is not one too many.
abbrev pub fits : Programs → Said → Bool
fits programs Nothing = true
fits programs (Filter listed) = not (list_any (is_named listed.name) programs.filters)
fits programs (Backend listed) = not (list_any (is_named listed.name) programs.backends)
fits programs (Side program) = is_none programs.side
fits programs Unread = false

-- The programs with the program of a further line.
abbrev pub with_said : Programs → Said → Programs
with_said programs (Filter listed) = record programs { filters = programs.filters ++ listed ∷ [] }
with_said programs (Backend listed) = record programs { backends = programs.backends ++ listed ∷ [] }
with_said programs (Side program) = record programs { side = Some program }
with_said programs said = programs

-- ## How the logic stores a list. No clause cites it.

abbrev pub program_code : Coded ListedProgram
program_code =
    code_by (List ℕ × (Option (List ℕ) × Bool)) (coded× (coded_list coded_ℕ) (coded× (coded_option (coded_list coded_ℕ)) coded_bool))
    (λ p. (p.path, (p.word, p.keeps_user))) (λ p. record { path = p.0; word = p.1.0; keeps_user = p.1.1 }) (λ _. refl)

abbrev pub listed_code : {K : Type 0} → Coded (Listed K)
listed_code = code_by (List ℕ × ListedProgram) (coded× (coded_list coded_ℕ) program_code) (λ l. (l.name, l.program)) (λ p. record { name = p.0; program = p.1 }) (λ _. refl)

abbrev pub programs_code : Coded Programs
programs_code =
    code_by (List (Listed FilterNameKind) × (List (Listed BackendNameKind) × Option ListedProgram)) (coded× (coded_list listed_code) (coded× (coded_list listed_code) (coded_option program_code)))
    (λ p. (p.filters, (p.backends, p.side))) (λ p. record { filters = p.0; backends = p.1.0; side = p.1.1 }) (λ _. refl)
