-- The end of a chain, by the ends of its programs.
use Rattle.std.specs.Prelude.{ℕ, Bool, true, false, not, ◌&&◌, ◌==◌, cond, List, ◌++◌, codes}
use Rattle.std.specs.List.{flat_map, list_all}
use Rattle.std.specs.Fmt.{decimal}
use Rattle.program_pipes.specs.declared.ends.Ended.{Ended}
use Rattle.program_pipes.specs.declared.ends.Ended.TheVariants.{Exited, Killed, Unknown}
use Rattle.program_pipes.specs.declared.ends.FilterEnd.{FilterEnd}
use Rattle.program_pipes.specs.declared.ends.ChainEnd.{ChainEnd}

abbrev pub succeeded : Ended → Bool
succeeded (Exited status) = status == 0
succeeded (Killed signal) = false
succeeded Unknown = false

-- ---- the exit status (backend(7))

abbrev pub filters_status : Bool → ℕ
filters_status true = 0
filters_status false = 1

-- A backend that exits with another status than 0 has decided. Otherwise each filter must have exited with 0.
abbrev pub status_by : Bool → Ended → ℕ
status_by all (Exited status) = cond (status == 0) (filters_status all) status
status_by all (Killed signal) = 1
status_by all Unknown = 1

abbrev pub all_succeeded : List FilterEnd → Bool
all_succeeded filters = list_all (λ filter. succeeded filter.ended) filters

abbrev pub chain_status : ChainEnd → ℕ
chain_status end = status_by (all_succeeded end.filters.items) end.backend

-- ---- the lines that report it (filter(7))

-- The spooler shows ERROR to users, and DEBUG only in the log of a failed stage.
abbrev pub level_by : Bool → List ℕ
level_by true = codes "ERROR: "
level_by false = codes "DEBUG: "

-- The end of a filter matters if it failed and the backend did not: otherwise the backend has said more.
abbrev pub filter_level : Ended → Ended → List ℕ
filter_level backend end = level_by (succeeded backend && not (succeeded end))

-- The spooler reports the status of the backend, because it is that of the chain.
abbrev pub exited : Ended → Bool
exited (Exited status) = true
exited (Killed signal) = false
exited Unknown = false

abbrev pub backend_level : Ended → List ℕ
backend_level end = level_by (not (exited end))

-- These texts, a number and a line feed.
unfoldable pub numbered_line : List ℕ → List ℕ → List ℕ → ℕ → List ℕ → List ℕ
numbered_line level name deed number end = level ++ name ++ deed ++ decimal number ++ end

unfoldable pub plain_line : List ℕ → List ℕ → List ℕ → List ℕ
plain_line level name deed = level ++ name ++ deed

abbrev pub end_line : List ℕ → List ℕ → Ended → List ℕ
end_line level name (Exited status) = numbered_line level name (codes " ended with status ") status (codes "\n")
end_line level name (Killed signal) = numbered_line level name (codes " was killed by signal ") signal (codes "\n")
end_line level name Unknown = plain_line level name (codes " ended in an unknown way\n")

abbrev pub filter_line : Ended → FilterEnd → List ℕ
filter_line backend filter = end_line (filter_level backend filter.ended) filter.name.now filter.ended

-- A line for each program, in order.
abbrev pub report_of : ChainEnd → List ℕ
report_of end = flat_map (filter_line end.backend) end.filters.items ++ end_line (backend_level end.backend) end.name.now end.backend
