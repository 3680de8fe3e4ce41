-- The table of a spool with one queue changed or removed.
use Rattle.std.proofs.Common.{◌≡◌, ◌≢◌, ◌∙◌, ℕ, zero, suc, Bool, true, false, cond, not, ◌||◌, List, [], ◌∷◌, map, None, Some, Option, IsSome, refl, sym, ap, subst, arith}
use Rattle.std.specs.Prelude.{nat_eq, IfOk, Result, Ok, Err}
use Rattle.std.specs.declared.cmp.Ordering.{Ordering}
use Rattle.std.specs.List.{AllByRecursion, Contains, filter}
use Rattle.std.specs.Option.{option_map}
use Rattle.std.specs.Ordering.{eq_by_cmp, nat_cmp}
use Rattle.std.specs.Cmp.{IsTotalOrder, nat_cmp_total}
use Rattle.std.specs.Cmp.Lexicographic.{bytes_decides, nat_list_cmp_total, pointwise, slice_cmp, texts_ties}
use Rattle.std.specs.FinMap as finite
use Rattle.spool_types.specs.Busy.{is_of}
use Rattle.spool_types.specs.Phases.{has_ended}
use Rattle.spool_types.specs.State.{State, Job, queue_at, job_at}
use Rattle.spool_types.specs.declared.rows.QueueRow.{QueueRow}
use Rattle.spool_types.specs.declared.version.Version.TheVariants.{Two}
use Rattle.split_rows.specs.Half.{takes}
use Rattle.split_rows.specs.Replaced.{replaced}
use Rattle.job_table.specs.Legal.{IsLegal}
use Rattle.job_table.specs.Over.{is_over, is_over_by}
use Rattle.event_codec.specs.RowSpelling.{IsOrderedQueue}
use Rattle.queue_edits.specs.QueueEdits.{after_removal, changed, is_job_of, with_row}
use Rattle.queue_edits.specs.EditRefusals.{removal_refusal}
use Rattle.queue_edits.specs.declared.change.QueueChange.{QueueChange}
use Rattle.queue_edits.proofs.Edits.{ended_jobs_go, job_left, other_name, unlike, untied}
use Rattle.spool_core.specs.Image.{HasDocument, HasDocuments}
use Rattle.spool_halves.specs.Edited.{KeepsAllDocuments}
use Rattle.spool_halves.specs.Halves.{IsHalf, IsSameDocument}
use Rattle.spool_halves.proofs.Elements.{all_there, from_half, later, map_there, there_value, to_half, value_there}

-- ## A map whose values are those of another one, changed

unmap_there : {X : Type 0} (f : X → X) (xs : List X) (y : X) → Contains (map f xs) y → (x : X) × Contains xs x × (f x ≡ y)
unmap_there f [] y (k, lt, is) = absurd (omega (arith, lt))
unmap_there f (x ∷ xs) y (zero, lt, is) = (x, (0, omega arith, refl), is)
unmap_there f (x ∷ xs) y (suc k, lt, is) =
    let found = unmap_there f xs y (k, omega (arith, lt), is) in
    (found.0, later x xs found.0 found.1, found.2)

module _ {K X : Type 0} (R : K → K → Ordering) (total : IsTotalOrder R) (m n : finite.FinMap R X) (key : X → K) (f : X → X)
    (same_key : (x : X) → key (f x) ≡ key x)
    (own_m : (k : K) (y : X) → finite.get m k ≡ Some y → key y ≡ k) (own_n : (k : K) (y : X) → finite.get n k ≡ Some y → key y ≡ k)
    (changed : finite.values n ≡ map f (finite.values m)) where
  to_changed : (k : K) (x : X) → finite.get m k ≡ Some x → finite.get n k ≡ Some (f x)
  to_changed k x at =
      subst (λ i. finite.get n i ≡ Some (f x)) (same_key x ∙ own_m k x at)
      (there_value R total n key (f x) own_n (subst (λ l. Contains l (f x)) (sym changed) (map_there f (finite.values m) x (value_there R total m k x at))))

  from_changed : (k : K) (y : X) → finite.get n k ≡ Some y → (x : X) × (finite.get m k ≡ Some x)
  from_changed k y at =
      let found = unmap_there f (finite.values m) y (subst (λ l. Contains l y) changed (value_there R total n k y at)) in
      (found.0, subst (λ i. finite.get m i ≡ Some found.0) (sym (same_key found.0) ∙ ap key found.2 ∙ own_n k y at) (there_value R total m key found.0 own_m found.1))

  absent : (k : K) → finite.get m k ≡ None → (o : Option X) → finite.get n k ≡ o → o ≡ None
  absent k e None at = refl
  absent k e (Some y) at =
      let bad : None ≡ Some (from_changed k y at).0 = sym e ∙ (from_changed k y at).1 in
      cc

  either : (k : K) (o : Option X) → finite.get m k ≡ o → finite.get n k ≡ option_map f o
  either k None e = absent k e (finite.get n k) refl
  either k (Some x) e = to_changed k x e

  pub changed_get : (k : K) → finite.get n k ≡ option_map f (finite.get m k)
  changed_get k = either k (finite.get m k) refl

-- ## A map with the values of another one that pass a test

abbrev pub passing : {X : Type 0} → (X → Bool) → Option X → Option X
passing p None = None
passing p (Some x) = cond (p x) (Some x) None

module _ {K X : Type 0} (R : K → K → Ordering) (total : IsTotalOrder R) (m n : finite.FinMap R X) (key : X → K) (p : X → Bool)
    (own_m : (k : K) (y : X) → finite.get m k ≡ Some y → key y ≡ k) (own_n : (k : K) (y : X) → finite.get n k ≡ Some y → key y ≡ k)
    (half : finite.values n ≡ filter p (finite.values m)) where
  from : (k : K) (y : X) → finite.get n k ≡ Some y → (finite.get m k ≡ Some y) × (p y ≡ true)
  from = from_half R total m n key p own_m own_n half

  none_left : (k : K) → ((y : X) → finite.get n k ≡ Some y → ⊥) → (o : Option X) → finite.get n k ≡ o → o ≡ None
  none_left k never None at = refl
  none_left k never (Some y) at = absurd (never y at)

  by_test : (k : K) (x : X) → finite.get m k ≡ Some x → (b : Bool) → p x ≡ b → finite.get n k ≡ cond b (Some x) None
  by_test k x at true passes = to_half R total m n key p own_m own_n half k x at passes
  by_test k x at false fails =
      none_left k (λ y there.
      let found = from k y there in
      let same : Some y ≡ Some x = sym found.0 ∙ at in
      let is : y ≡ x = cc in
      let bad : true ≡ false = sym found.1 ∙ ap p is ∙ fails in
      cc) (finite.get n k) refl

  by_value : (k : K) (o : Option X) → finite.get m k ≡ o → finite.get n k ≡ passing p o
  by_value k None e =
      none_left k (λ y there.
      let bad : None ≡ Some y = sym e ∙ (from k y there).0 in
      cc) (finite.get n k) refl
  by_value k (Some x) e = by_test k x e (p x) refl

  pub half_get : (k : K) → finite.get n k ≡ passing p (finite.get m k)
  half_get k = by_value k (finite.get m k) refl

-- ## Equal tables

same_state : (t u : State) → t.queues ≡ u.queues → t.jobs ≡ u.jobs → t.highest ≡ u.highest → t.moment ≡ u.moment → t.version ≡ u.version → t ≡ u
same_state t u q j h m v = λ i. record { queues = q i; jobs = j i; highest = h i; moment = m i; version = v i }

all_pass : {X : Type 0} (o : Option X) → passing (λ x. true) o ≡ o
all_pass None = refl
all_pass (Some x) = refl

own_numbers : (x : State) → IsLegal x → (k : ℕ) (r : Job) → job_at x k ≡ Some r → r.id ≡ k
own_numbers x legal k r at = (legal.jobs k r at).id

-- ## One row replaced

module _ (s t : State) (legal_s : IsLegal s) (legal_t : IsLegal t) where
  pub same_jobs : finite.values t.jobs ≡ filter (λ (r : Job). takes false [] r.queue) (finite.values s.jobs) → t.jobs ≡ s.jobs
  same_jobs are =
      finite.same_map nat_cmp_total finite.nat_cmp-IsAntisymmetric t.jobs s.jobs
      (λ k. half_get nat_cmp nat_cmp_total s.jobs t.jobs (λ (r : Job). r.id) (λ (r : Job). takes false [] r.queue) (own_numbers s legal_s) (own_numbers t legal_t) are k
      ∙ all_pass (job_at s k))

  module _ (row : QueueRow) (there : IsSome (queue_at s row.name)) (are : finite.values t.queues ≡ map (replaced row) (finite.values s.queues)) where
    named_so : (q : QueueRow) (b : Bool) → pointwise nat_eq q.name row.name ≡ b → (cond b row q).name ≡ q.name
    named_so q true same = sym ((bytes_decides q.name row.name).0 same)
    named_so q false other = refl

    name_kept : (q : QueueRow) → (replaced row q).name ≡ q.name
    name_kept q = named_so q (pointwise nat_eq q.name row.name) refl

    chosen : (b : Bool) (q : QueueRow) → Some (cond b row q) ≡ cond b (Some row) (Some q)
    chosen true q = refl
    chosen false q = refl

    nowhere : (k : List ℕ) → queue_at s k ≡ None → k ≢ row.name
    nowhere k none same = missing (queue_at s row.name) there (sym (ap (queue_at s) same) ∙ none)
      where
        missing : (o : Option QueueRow) → IsSome o → o ≡ None → ⊥
        missing None some e = cc
        missing (Some q) some e = absurd (cc)

    at_name : (k : List ℕ) (o : Option QueueRow) → queue_at s k ≡ o → option_map (replaced row) o ≡ cond (eq_by_cmp (slice_cmp nat_cmp) k row.name) (Some row) o
    at_name k None e = ap (λ b. cond b (Some row) None) (sym (untied k row.name (nowhere k e)))
    at_name k (Some q) e =
        chosen (pointwise nat_eq q.name row.name) q
        ∙ ap (λ b. cond b (Some row) (Some q)) (ap (λ (n : List ℕ). pointwise nat_eq n row.name) (legal_s.names k q e) ∙ texts_ties k row.name)

    pub queues_with_row : t.queues ≡ finite.insert s.queues row.name row
    queues_with_row =
        finite.same_map nat_list_cmp_total (finite.slice_cmp-IsAntisymmetric finite.nat_cmp-IsAntisymmetric) t.queues (finite.insert s.queues row.name row)
        (λ k. changed_get (slice_cmp nat_cmp) nat_list_cmp_total s.queues t.queues (λ (q : QueueRow). q.name) (replaced row) name_kept legal_s.names legal_t.names are k
        ∙ at_name k (queue_at s k) refl ∙ sym (finite.get-insert nat_list_cmp_total s.queues row.name row k))

    pub is_with_row : finite.values t.jobs ≡ filter (λ (r : Job). takes false [] r.queue) (finite.values s.jobs) → t.highest ≡ s.highest → t.moment ≡ s.moment → t.version ≡ Two
        → t ≡ with_row (Some row) s
    is_with_row jobs highest moment version = same_state t (with_row (Some row) s) queues_with_row (same_jobs jobs) highest moment version

-- Documents of the same jobs.
module _ (s t : State) (legal_s : IsLegal s) (jobs : t.jobs ≡ s.jobs) (highest : t.highest ≡ s.highest) (bytes image : List ℕ) (numbers : List ℕ)
    (numbered : numbers ≡ map (λ (r : Job). r.id) (finite.values t.jobs)) (same : AllByRecursion (IsSameDocument s t bytes image) numbers)
    (documents : ℕ → List ℕ) (has : HasDocuments t documents image) where
  pub keeps_all : KeepsAllDocuments s bytes image
  keeps_all j row document at goes there =
      let at_t : job_at t j ≡ Some row = ap (λ js. finite.get js j) jobs ∙ at in
      let over_s : is_over s j ≡ false = ap (is_over_by s.highest j) at ∙ goes in
      let over_t : is_over t j ≡ false = ap (is_over_by t.highest j) at_t ∙ goes in
      let id : row.id ≡ j = own_numbers s legal_s j row at in
      let listed = map_there (λ (r : Job). r.id) (finite.values t.jobs) row (value_there nat_cmp nat_cmp_total t.jobs j row at_t) in
      let in_numbers : Contains numbers j = subst (Contains numbers) id (subst (λ (ns : List ℕ). Contains ns row.id) (sym numbered) listed) in
      let is : documents j ≡ document = all_there (IsSameDocument s t bytes image) numbers j same in_numbers over_s over_t document (documents j) there (has j over_t) in
      subst (λ (d : List ℕ). HasDocument j d image) is (has j over_t)

-- ## One queue removed

takes_other : (name x : List ℕ) → takes false (name ∷ []) x ≡ not (pointwise nat_eq x name)
takes_other name x = by_name (pointwise nat_eq x name) refl
  where
    by_name : (b : Bool) → pointwise nat_eq x name ≡ b → takes false (name ∷ []) x ≡ not b
    by_name true same = ap (λ b. not (b || false)) ((bytes_decides name x).1 (sym ((bytes_decides x name).0 same)))
    by_name false other = ap (λ b. not (b || false)) (unlike name x (λ same. other_name x name other (sym same)))

module _ (name : List ℕ) (s t : State) (legal_s : IsLegal s) (legal_t : IsLegal t) (half : IsHalf false (name ∷ []) s t) where
  abbrev nothing : Option QueueRow
  nothing = None

  no_queue : (b : Bool) → nothing ≡ cond b nothing nothing
  no_queue true = refl
  no_queue false = refl

  turned : {X : Type 0} (b : Bool) (x : X) → cond (not b) (Some x) None ≡ cond b None (Some x)
  turned true x = refl
  turned false x = refl

  left_queue : (k : List ℕ) (o : Option QueueRow) → queue_at s k ≡ o → passing (λ (q : QueueRow). takes false (name ∷ []) q.name) o ≡ cond (eq_by_cmp (slice_cmp nat_cmp) k name) None o
  left_queue k None e = no_queue (eq_by_cmp (slice_cmp nat_cmp) k name)
  left_queue k (Some q) e =
      ap (λ b. cond b (Some q) None) (takes_other name q.name)
      ∙ ap (λ (n : List ℕ). cond (not (pointwise nat_eq n name)) (Some q) None) (legal_s.names k q e)
      ∙ ap (λ b. cond (not b) (Some q) None) (texts_ties k name)
      ∙ turned (eq_by_cmp (slice_cmp nat_cmp) k name) q

  left_job : (o : Option Job) → passing (λ (r : Job). takes false (name ∷ []) r.queue) o ≡ cond (not (is_job_of name o)) o None
  left_job None = refl
  left_job (Some r) = ap (λ b. cond b (Some r) None) (takes_other name r.queue)

  queues_left : t.queues ≡ finite.remove s.queues name
  queues_left =
      finite.same_map nat_list_cmp_total (finite.slice_cmp-IsAntisymmetric finite.nat_cmp-IsAntisymmetric) t.queues (finite.remove s.queues name)
      (λ k. half_get (slice_cmp nat_cmp) nat_list_cmp_total s.queues t.queues (λ (q : QueueRow). q.name) (λ (q : QueueRow). takes false (name ∷ []) q.name) legal_s.names legal_t.names half.queues k
      ∙ left_queue k (queue_at s k) refl ∙ sym (finite.get-remove nat_list_cmp_total s.queues name k))

  jobs_left : t.jobs ≡ (after_removal name s).jobs
  jobs_left =
      finite.same_map nat_cmp_total finite.nat_cmp-IsAntisymmetric t.jobs (after_removal name s).jobs
      (λ k. half_get nat_cmp nat_cmp_total s.jobs t.jobs (λ (r : Job). r.id) (λ (r : Job). takes false (name ∷ []) r.queue) (own_numbers s legal_s) (own_numbers t legal_t) half.jobs k
      ∙ left_job (job_at s k) ∙ sym (job_left name s k))

  pub is_removed : t ≡ after_removal name s
  is_removed = same_state t (after_removal name s) queues_left jobs_left half.highest half.moment half.version

-- The disk of a listing is returned.
pub moved : {T E F : Type 0} (made : Result T E) (r : Result T F) (P : T → Type 0) → IfOk r (λ disk. made ≡ Ok disk) → IfOk made P → IfOk r P
moved made (Ok disk) P same has = subst (λ m. IfOk m P) same has
moved made (Err fault) P same has = tt

-- A row with other values of some fields has the same lists.
pub ordered_so : (c : QueueChange) (q : QueueRow) → IsOrderedQueue q → IsOrderedQueue (changed c q)
ordered_so c q is = record { reasons = is.reasons; attributes = is.attributes }

-- A queue that is removed has no job that has not ended.
pub others_only : (name : List ℕ) (purge : Bool) (s : State) (refused : removal_refusal name purge s ≡ None) (j : ℕ) (r : Job) → job_at s j ≡ Some r → has_ended r.phase ≡ false → (b : Bool) → is_of name r ≡ b → b ≡ false
others_only name purge s refused j r at goes true own =
    let bad : true ≡ false = sym (ended_jobs_go name purge s j r at own refused).0 ∙ goes in
    cc
others_only name purge s refused j r at goes false own = refl

-- A job of another queue is one of the half.
pub taken_of : (name : List ℕ) (r : Job) → is_of name r ≡ false → takes false (name ∷ []) r.queue ≡ true
taken_of name r other = takes_other name r.queue ∙ ap not other
