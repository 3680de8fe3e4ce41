-- Laws about the answers about jobs, and what CUPS 2.4 asks for.
use Rattle.std.specs.Prelude.{◌≡◌, ℕ, List, [], ◌∷◌, codes, filter, map, None}
use Rattle.std.specs.List.{list_any}
use Rattle.ipp_values.specs.declared.value.Value.{Value}
use Rattle.ipp_values.specs.declared.value.Value.TheVariants.{Keyword}
use Rattle.requested_attributes.specs.AttributeGroups.{StatedRow, asks}
use Rattle.ipp_answers.specs.JobRows.{job_rows}
use Rattle.ipp_answers.specs.declared.facts.JobFacts.{JobFacts}
use Rattle.ipp_answers.specs.declared.facts.Server.{Server}

-- If the owner of a job is hidden, each title gives the same rows.
abbrev pub AreHidden : Type 0
AreHidden = (s : Server) (j : JobFacts) (title other : List ℕ) → job_rows s (record j { user = None; title = title }) ≡ job_rows s (record j { user = None; title = other })

abbrev pub keywords : List (List ℕ) → List Value
keywords words = map Keyword words

-- The rows that these values of `requested-attributes` ask for.
abbrev pub rows_for : List Value → List StatedRow → List StatedRow
rows_for values rows = filter (λ (r : StatedRow). list_any (asks r.name r.group) values) rows

abbrev pub names_for : List Value → List StatedRow → List (List ℕ)
names_for values rows = map (λ (r : StatedRow). r.name) (rows_for values rows)

-- `lpstat -t`, of the jobs.
abbrev pub lpstat_names : List (List ℕ)
lpstat_names =
    codes "job-id" ∷ codes "job-k-octets" ∷ codes "job-name" ∷ codes "job-originating-user-name" ∷ codes "job-printer-state-message"
    ∷ codes "job-printer-uri" ∷ codes "job-state-reasons" ∷ codes "time-at-creation" ∷ codes "time-at-completed" ∷ []

abbrev pub LpstatAsks : Type 0
LpstatAsks = (s : Server) (j : JobFacts) → names_for (keywords lpstat_names) (job_rows s j)
    ≡ codes "job-id" ∷ codes "job-k-octets" ∷ codes "job-name" ∷ codes "job-originating-user-name" ∷ codes "job-printer-uri"
    ∷ codes "job-state-reasons" ∷ codes "time-at-completed" ∷ codes "time-at-creation" ∷ []

-- The two groups of attributes of jobs have all rows.
abbrev pub AllJobRows : Type 0
AllJobRows = (s : Server) (j : JobFacts) → rows_for (keywords (codes "job-template" ∷ codes "job-description" ∷ [])) (job_rows s j) ≡ job_rows s j
