-- How far a list of jobs was checked.
use Rattle.std.proofs.Common.{◌≡◌, ℕ, ◌<◌, ◌≤◌, zero, suc, Bool, true, false, cond, List, [], ◌∷◌, length, drop, filter, nat_lt, refl, ap, ◌∙◌, arith}
use Rattle.std.proofs.lemmas.Bool.Decides.{nat_tests}
use Rattle.service_rules.specs.Purges.{above, is_purgeable, swept_to, RisesFrom}
use Rattle.service_rules.specs.declared.purges.Candidate.{Candidate}

-- Comparing two numbers of known order.
above_it : (cursor number : ℕ) → cursor < number → nat_lt cursor number ≡ true
above_it cursor number so = grind (arith, nat_tests)

up_to_it : (cursor number : ℕ) → number ≤ cursor → nat_lt cursor number ≡ false
up_to_it cursor number so = grind (arith, nat_tests)

-- All jobs of a list that ascends from a lower number are above it.
rises_lower : (low cursor : ℕ) (jobs : List Candidate) → low ≤ cursor → RisesFrom cursor jobs → RisesFrom low jobs
rises_lower low cursor [] lower rises = tt
rises_lower low cursor (job ∷ jobs) lower rises = (omega (arith, rises.0), rises.1)

all_above : (cursor : ℕ) (jobs : List Candidate) → RisesFrom cursor jobs → above cursor jobs ≡ jobs
all_above cursor [] rises = refl
all_above cursor (job ∷ jobs) rises =
    ap (λ (b : Bool). cond b (job ∷ above cursor jobs) (above cursor jobs)) (above_it cursor job.id rises.0)
    ∙ ap (λ (js : List Candidate). job ∷ js) (all_above cursor jobs (rises_lower cursor job.id jobs (omega (arith, rises.0)) rises.1))

-- The number of the last checked job only grows.
by_test : (cursor low end : ℕ) (b : Bool) → cursor < low → low ≤ end → cursor ≤ cond b cursor end
by_test cursor low end true up rest = omega arith
by_test cursor low end false up rest = omega arith

no_lower : (cursor count : ℕ) (jobs : List Candidate) → RisesFrom cursor jobs → cursor ≤ swept_to cursor count jobs
no_lower cursor count [] rises = omega arith
no_lower cursor zero (job ∷ jobs) rises = by_test cursor job.id (swept_to job.id 0 jobs) (is_purgeable job) rises.0 (no_lower job.id 0 jobs rises.1)
no_lower cursor (suc count) (job ∷ jobs) rises =
    let rest : job.id ≤ swept_to job.id (cond (is_purgeable job) count (suc count)) jobs = no_lower job.id (cond (is_purgeable job) count (suc count)) jobs rises.1 in
    let up : cursor < job.id = rises.0 in
    omega arith

-- A checked job is not above it.
skip_head : (end : ℕ) (job : Candidate) (jobs : List Candidate) → job.id ≤ end → above end (job ∷ jobs) ≡ above end jobs
skip_head end job jobs low = ap (λ (b : Bool). cond b (job ∷ above end jobs) (above end jobs)) (up_to_it end job.id low)

module _ (cursor : ℕ) (job : Candidate) (jobs : List Candidate) (low : (n : ℕ) → job.id ≤ swept_to job.id n jobs) where
  none_left_by : RisesFrom cursor (job ∷ jobs) → filter is_purgeable (above (swept_to job.id 0 jobs) jobs) ≡ filter is_purgeable jobs → (b : Bool) → is_purgeable job ≡ b
      → filter is_purgeable (above (cond b cursor (swept_to job.id 0 jobs)) (job ∷ jobs)) ≡ cond b (job ∷ filter is_purgeable jobs) (filter is_purgeable jobs)
  none_left_by rises rest true is =
      ap (filter is_purgeable) (all_above cursor (job ∷ jobs) rises)
      ∙ ap (λ (b : Bool). cond b (job ∷ filter is_purgeable jobs) (filter is_purgeable jobs)) is
  none_left_by rises rest false is = ap (filter is_purgeable) (skip_head (swept_to job.id 0 jobs) job jobs (low 0)) ∙ rest

  some_left_by : (count : ℕ) → ((n : ℕ) → filter is_purgeable (above (swept_to job.id n jobs) jobs) ≡ drop n (filter is_purgeable jobs)) → (b : Bool)
      → filter is_purgeable (above (swept_to job.id (cond b count (suc count)) jobs) (job ∷ jobs)) ≡ drop (suc count) (cond b (job ∷ filter is_purgeable jobs) (filter is_purgeable jobs))
  some_left_by count rest true = ap (filter is_purgeable) (skip_head (swept_to job.id count jobs) job jobs (low count)) ∙ rest count
  some_left_by count rest false = ap (filter is_purgeable) (skip_head (swept_to job.id (suc count) jobs) job jobs (low (suc count))) ∙ rest (suc count)

  none_there_by : above (swept_to job.id 0 jobs) jobs ≡ [] → (b : Bool) → length (cond b (job ∷ filter is_purgeable jobs) (filter is_purgeable jobs)) ≤ 0
      → above (cond b cursor (swept_to job.id 0 jobs)) (job ∷ jobs) ≡ []
  none_there_by rest true few = absurd (omega arith)
  none_there_by rest false few = skip_head (swept_to job.id 0 jobs) job jobs (low 0) ∙ rest

-- Above the checked jobs are the jobs not returned.
pub rest_above : (cursor count : ℕ) (jobs : List Candidate) → RisesFrom cursor jobs → filter is_purgeable (above (swept_to cursor count jobs) jobs) ≡ drop count (filter is_purgeable jobs)
rest_above cursor zero [] rises = refl
rest_above cursor (suc count) [] rises = refl
rest_above cursor zero (job ∷ jobs) rises =
    none_left_by cursor job jobs (λ n. no_lower job.id n jobs rises.1) rises (rest_above job.id 0 jobs rises.1) (is_purgeable job) refl
rest_above cursor (suc count) (job ∷ jobs) rises =
    some_left_by cursor job jobs (λ n. no_lower job.id n jobs rises.1) count (λ n. rest_above job.id n jobs rises.1) (is_purgeable job)

few_less : (count : ℕ) (b : Bool) (job : Candidate) (found : List Candidate) → length (cond b (job ∷ found) found) ≤ suc count → length found ≤ cond b count (suc count)
few_less count true job found few = omega arith
few_less count false job found few = few

none_by : (b : Bool) (job : Candidate) (found : List Candidate) → length (cond b (job ∷ found) found) ≤ 0 → length found ≤ 0
none_by true job found few = absurd (omega arith)
none_by false job found few = few

-- None is above if all were returned.
pub none_above : (cursor count : ℕ) (jobs : List Candidate) → RisesFrom cursor jobs → length (filter is_purgeable jobs) ≤ count → above (swept_to cursor count jobs) jobs ≡ []
none_above cursor count [] rises few = refl
none_above cursor zero (job ∷ jobs) rises few =
    none_there_by cursor job jobs (λ n. no_lower job.id n jobs rises.1) (none_above job.id 0 jobs rises.1 (none_by (is_purgeable job) job (filter is_purgeable jobs) few))
    (is_purgeable job) few
none_above cursor (suc count) (job ∷ jobs) rises few =
    let next = cond (is_purgeable job) count (suc count) in
    skip_head (swept_to job.id next jobs) job jobs (no_lower job.id next jobs rises.1)
    ∙ none_above job.id next jobs rises.1 (few_less count (is_purgeable job) job (filter is_purgeable jobs) few)
