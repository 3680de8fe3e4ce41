-- The first bytes of a program's file, and the end of its line.
use Rattle.std.specs.Prelude.{ℕ, Bool, ◌||◌, nat_eq, List, ◌∷◌, [], codes, unwrap_or}
use Rattle.std.specs.List.{ends_with, starts_with}
use Rattle.program_lists.specs.declared.line.ListedProgram.{ListedProgram}

-- `#!`, or the four bytes of ELF.
abbrev pub begins_right : List ℕ → Bool
begins_right head = starts_with nat_eq head (codes "#!") || starts_with nat_eq head (127 ∷ codes "ELF")

-- The last of its words ends with a carriage return.
abbrev pub ends_with_return : ListedProgram → Bool
ends_with_return program = ends_with nat_eq (unwrap_or program.word program.path) (13 ∷ [])
