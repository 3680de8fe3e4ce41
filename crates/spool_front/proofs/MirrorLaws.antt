-- One more line of a mirror.
use Rattle.std.proofs.Common.{◌≡◌, ℕ, List, [], ◌∷◌, ◌++◌, refl, Option}
use Rattle.service_client.specs.Notices.{Known, job_after, jobs_after, known_after, known_after_all, said_of}

pub jobs_more : (lines : List (List ℕ)) (line : List ℕ) (job : ℕ) (row : Option (List ℕ)) → jobs_after (lines ++ line ∷ []) job row ≡ job_after (said_of line) line job (jobs_after lines job row)
jobs_more [] line job row = refl
jobs_more (first ∷ lines) line job row = jobs_more lines line job (job_after (said_of first) first job row)

pub known_more : (lines : List (List ℕ)) (line : List ℕ) (known : Known) → known_after_all (lines ++ line ∷ []) known ≡ known_after (said_of line) (known_after_all lines known)
known_more [] line known = refl
known_more (first ∷ lines) line known = known_more lines line (known_after (said_of first) known)
