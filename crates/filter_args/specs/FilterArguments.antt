-- The arguments of a filter or a backend (filter(7), backend(7)).
use Rattle.std.specs.Prelude.{ℕ, List, ◌∷◌, Option}
use Rattle.std.specs.Fmt.{decimal}
use Rattle.std.specs.Option.{option_to_list}
use Rattle.spool_types.specs.State.{Job}

-- The job's number, its user, its title, the number of copies, its options, and the document if it is a file.
abbrev pub arguments : Job → Option (List ℕ) → List (List ℕ)
arguments job file = decimal job.id ∷ job.user ∷ job.title ∷ decimal job.copies ∷ job.options ∷ option_to_list file
