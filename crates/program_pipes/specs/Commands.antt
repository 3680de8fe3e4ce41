-- The commands of the programs of a chain.
use Rattle.std.specs.Prelude.{ℕ, Bool, true, false, nat_eq, nat_lt, cond, List, length, ◌∷◌, ◌++◌, take, map, codes, Option, None, Some, string_bytes}
use Rattle.std.specs.List.{after_first, position_or_len}
use Rattle.std.specs.Option.{option_to_list}
use Rattle.program_lists.specs.declared.line.ListedProgram.{ListedProgram}

-- A program, and its argument before those of a job.
abbrev pub program_words : ListedProgram → List (List ℕ)
program_words program = program.path ∷ option_to_list program.word

-- Only the first program gets the name of the document's file, the sixth argument of a job (filter(7)).
abbrev pub job_words : Bool → List (List ℕ) → List (List ℕ)
job_words true words = words
job_words false words = take 5 words

-- The script that runs each program. Its text contains nothing of a job.
unfoldable pub script : List ℕ
script = codes "{ exec /usr/bin/env --default-signal=TERM \"$@\"; } 3<>/dev/null 4</dev/null\nexit 126\n"

-- The arguments of the shell: the script, its name, and its parameters.
abbrev pub command_words : Bool → ListedProgram → List (List ℕ) → List (List ℕ)
command_words is_first program words = codes "-c" ∷ script ∷ codes "sh" ∷ (program_words program ++ job_words is_first words)

abbrev pub is_colon : ℕ → Bool
is_colon b = nat_eq b 58

-- The URI of the same device for the backend of this name, which takes the place of the scheme before the first colon.
abbrev pub backend_uri : List ℕ → List ℕ → Option (List ℕ)
backend_uri name uri = cond (nat_lt (position_or_len is_colon uri) (length uri)) (Some (name ++ 58 ∷ after_first is_colon uri)) None
