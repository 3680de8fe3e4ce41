-- Why a service denies a request, as a message.
use Rattle.std.specs.Prelude.{ℕ, List, ◌++◌, codes}
use Rattle.std.specs.Fmt.{decimal}
use Rattle.front_proof.specs.Standings.{Standing, unproved, user, operator}

-- Why a client may not act on a job.
abbrev pub job_reason : Standing → List ℕ
job_reason unproved = codes "the service does not know who you are (see spool_service(8), Roles)"
job_reason (user name) = codes "it is not yours (ask an operator, or see spool_service(8), Roles)"
job_reason (operator name) = codes "the service denies it (see spool_service(8), Roles)"

-- An action on a job that its owner may do.
unfoldable pub denied_job : List ℕ → ℕ → Standing → List ℕ
denied_job act job standing = codes "cannot " ++ act ++ codes " job " ++ decimal job ++ codes ": " ++ job_reason standing

unfoldable pub operators_only : List ℕ → List ℕ
operators_only right = codes "only operators may " ++ right ++ codes " (see spool_service(8), Roles)"

unfoldable pub denied_as : List ℕ → List ℕ → List ℕ → List ℕ
denied_as act object reason = codes "cannot " ++ act ++ codes " " ++ object ++ codes ": " ++ reason

-- An action that only operators may do: `cannot enable queue q: only operators may change queues (..)`.
abbrev pub denied_to_all : List ℕ → List ℕ → List ℕ → List ℕ
denied_to_all act object right = denied_as act object (operators_only right)
