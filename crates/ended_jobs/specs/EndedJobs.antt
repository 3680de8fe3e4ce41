-- What the end of a job permits.
use Rattle.std.specs.Prelude.{Bool, true, ◌&&◌, not, Option, None, Some}

-- The job has ended, and no child of it runs.
abbrev pub is_purgeable : Bool → Bool → Bool
is_purgeable ended runs = ended && not runs

-- Nobody needs to wait for the end of the job. A job that does not exist was purged after its end.
abbrev pub has_settled : Option Bool → Bool
has_settled None = true
has_settled (Some ended) = ended
