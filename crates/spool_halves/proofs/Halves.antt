-- The rows and documents of the whole that a half has.
use Rattle.std.proofs.Common.{◌≡◌, ◌∙◌, ℕ, Bool, true, false, not, List, map, None, Some, Option, refl, sym, ap, subst}
use Rattle.std.specs.List.{AllByRecursion, Contains}
use Rattle.std.specs.Ordering.{nat_cmp}
use Rattle.std.specs.Cmp.{nat_cmp_total}
use Rattle.std.specs.Cmp.Lexicographic.{slice_cmp, nat_list_cmp_total}
use Rattle.std.specs.FinMap as finite
use Rattle.spool_types.specs.State.{State, Job, queue_at, job_at}
use Rattle.spool_types.specs.declared.rows.QueueRow.{QueueRow}
use Rattle.split_rows.specs.Half.{takes}
use Rattle.job_table.specs.Legal.{IsLegal}
use Rattle.job_table.specs.Over.{is_over, is_over_by}
use Rattle.spool_core.specs.Image.{HasDocument, HasDocuments}
use Rattle.spool_halves.specs.Halves.{IsHalf, IsSameDocument, KeepsDocuments}
use Rattle.spool_halves.proofs.Elements.{all_there, from_half, map_there, to_half, unkept, kept}
use Rattle.spool_halves.proofs.Elements as elements

-- ## Which rows

module _ (named : Bool) (names : List (List ℕ)) (s t : State) (legal_s : IsLegal s) (legal_t : IsLegal t) (half : IsHalf named names s t) where
  own_jobs : (x : State) → IsLegal x → (k : ℕ) (r : Job) → job_at x k ≡ Some r → r.id ≡ k
  own_jobs x legal k r at = (legal.jobs k r at).id

  pub job_to : (j : ℕ) (r : Job) → job_at s j ≡ Some r → takes named names r.queue ≡ true → job_at t j ≡ Some r
  job_to = to_half nat_cmp nat_cmp_total s.jobs t.jobs (λ (r : Job). r.id) (λ (r : Job). takes named names r.queue) (own_jobs s legal_s) (own_jobs t legal_t) half.jobs

  pub job_from : (j : ℕ) (r : Job) → job_at t j ≡ Some r → (job_at s j ≡ Some r) × (takes named names r.queue ≡ true)
  job_from = from_half nat_cmp nat_cmp_total s.jobs t.jobs (λ (r : Job). r.id) (λ (r : Job). takes named names r.queue) (own_jobs s legal_s) (own_jobs t legal_t) half.jobs

  pub queue_to : (name : List ℕ) (q : QueueRow) → queue_at s name ≡ Some q → takes named names q.name ≡ true → queue_at t name ≡ Some q
  queue_to = to_half (slice_cmp nat_cmp) nat_list_cmp_total s.queues t.queues (λ (q : QueueRow). q.name) (λ (q : QueueRow). takes named names q.name) legal_s.names legal_t.names half.queues

  pub queue_from : (name : List ℕ) (q : QueueRow) → queue_at t name ≡ Some q → (queue_at s name ≡ Some q) × (takes named names q.name ≡ true)
  queue_from = from_half (slice_cmp nat_cmp) nat_list_cmp_total s.queues t.queues (λ (q : QueueRow). q.name) (λ (q : QueueRow). takes named names q.name) legal_s.names legal_t.names half.queues

  -- The row of a queue of the half.
  pub queue_same : (name : List ℕ) → takes named names name ≡ true → queue_at t name ≡ queue_at s name
  queue_same name own = either (queue_at s name) refl
    where
      no_queue : (o : Option QueueRow) → queue_at s name ≡ None → queue_at t name ≡ o → o ≡ None
      no_queue None e at = refl
      no_queue (Some q) e at =
          let bad : None ≡ Some q = sym e ∙ (queue_from name q at).0 in
          cc

      either : (o : Option QueueRow) → queue_at s name ≡ o → queue_at t name ≡ o
      either None e = no_queue (queue_at t name) e refl
      either (Some q) e = queue_to name q e (ap (takes named names) (legal_s.names name q e) ∙ own)

  -- No job of the other queues.
  pub job_absent : (j : ℕ) (r : Job) → job_at s j ≡ Some r → takes named names r.queue ≡ false → job_at t j ≡ None
  job_absent j r at other = either (job_at t j) refl
    where
      either : (o : Option Job) → job_at t j ≡ o → o ≡ None
      either None e = refl
      either (Some x) e =
          let found = job_from j x e in
          let same : Some x ≡ Some r = sym found.0 ∙ at in
          let is : x ≡ r = cc in
          let bad : true ≡ false = sym found.1 ∙ ap (λ (y : Job). takes named names y.queue) is ∙ other in
          cc

  -- ## Documents

  module _ (bytes image : List ℕ) (numbers : List ℕ) (numbered : numbers ≡ map (λ (r : Job). r.id) (finite.values t.jobs))
      (same : AllByRecursion (IsSameDocument s t bytes image) numbers) (documents : ℕ → List ℕ) (has : HasDocuments t documents image) where
    pub keeps : KeepsDocuments named names s bytes image
    keeps j row document at takes_it goes there =
        let at_t = job_to j row at takes_it in
        let over_s : is_over s j ≡ false = ap (is_over_by s.highest j) at ∙ goes in
        let over_t : is_over t j ≡ false = ap (is_over_by t.highest j) at_t ∙ goes in
        let id : row.id ≡ j = own_jobs s legal_s j row at in
        let listed = map_there (λ (r : Job). r.id) (finite.values t.jobs) row (elements.value_there nat_cmp nat_cmp_total t.jobs j row at_t) in
        let in_numbers : Contains numbers j = subst (Contains numbers) id (subst (λ (ns : List ℕ). Contains ns row.id) (sym numbered) listed) in
        let is : documents j ≡ document = all_there (IsSameDocument s t bytes image) numbers j same in_numbers over_s over_t document (documents j) there (has j over_t) in
        subst (λ (d : List ℕ). HasDocument j d image) is (has j over_t)

-- A queue in one half is not in the other.
pub other_half : (names : List (List ℕ)) (name : List ℕ) (b : Bool) → takes true names name ≡ b → takes false names name ≡ not b
other_half names name b is = ap not is
