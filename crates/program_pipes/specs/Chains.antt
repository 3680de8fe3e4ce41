-- The programs of a chain.
use Rattle.std.specs.Prelude.{ℕ, Bool, cond, List, [], ◌∷◌, Option, None, Some}
use Rattle.std.specs.Option.{option_map}
use Rattle.spool_types.specs.declared.kinds.FilterNameKind.{FilterNameKind}
use Rattle.program_lists.specs.Programs.{Programs}
use Rattle.program_lists.specs.declared.kinds.BackendNameKind.{BackendNameKind}
use Rattle.program_lists.specs.declared.line.Listed.{Listed}
use Rattle.program_lists.specs.declared.line.ListedProgram.{ListedProgram}

-- The filters in order, and the backend.
pub record ChainPrograms : Type 0 where
  pub filters : List (Listed FilterNameKind)
  pub backend : Listed BackendNameKind

-- The only backend, unless it would keep the user of the spooler.
abbrev pub sole_backend : List (Listed BackendNameKind) → Option (Listed BackendNameKind)
sole_backend [] = None
sole_backend (listed ∷ []) = cond listed.program.keeps_user None (Some listed)
sole_backend (listed ∷ other ∷ others) = None

abbrev pub chain_by : Option ListedProgram → List (Listed FilterNameKind) → Option (Listed BackendNameKind) → Option ChainPrograms
chain_by (Some side) filters backend = None
chain_by None filters backend = option_map (λ listed. record { filters = filters; backend = listed }) backend

-- A list of programs is a chain if it has one backend and no program of the side channel.
abbrev pub chain_in : Programs → Option ChainPrograms
chain_in programs = chain_by programs.side programs.filters (sole_backend programs.backends)
