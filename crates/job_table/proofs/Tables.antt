-- The lemmas on rows, for queues by their names and for jobs by their numbers.
use Rattle.std.proofs.Common.{◌≡◌, ℕ, ◌<◌, IsTrue, List, [], ◌∷◌, length, get_or, set, map, Option, Some, None, IsSome, refl, sym, ap, ◌∙◌}
use Rattle.std.specs.List.{insert, remove}
use Rattle.std.specs.Ordering.{nat_cmp}
use Rattle.std.specs.Cmp.{nat_cmp_total}
use Rattle.std.specs.Cmp.Lexicographic.{slice_cmp, nat_list_cmp_total}
use Rattle.std.specs.FinMap as finite
use Rattle.spool_types.specs.declared.rows.QueueRow.{QueueRow}
use Rattle.spool_types.specs.declared.rows.JobRow.{JobRow}
use Rattle.spool_types.specs.State.{Job, job_of, Queues, Jobs}
use Rattle.job_table.specs.TableRows.{queue_entry, job_entry}
use Rattle.job_rows.specs.RowPositions.{IsPosition, IsGap}
use Rattle.job_table.proofs.Rows as rows

abbrev pub IsQueuePlace : List QueueRow → List ℕ → ℕ → Type 0
IsQueuePlace = IsPosition (slice_cmp nat_cmp) (λ r. r.name)

abbrev pub IsQueueGap : List QueueRow → List ℕ → ℕ → Type 0
IsQueueGap = IsGap (slice_cmp nat_cmp) (λ r. r.name)

abbrev pub IsJobPlace : List JobRow → ℕ → ℕ → Type 0
IsJobPlace = IsPosition nat_cmp (λ r. r.job.id)

abbrev pub IsJobGap : List JobRow → ℕ → ℕ → Type 0
IsJobGap = IsGap nat_cmp (λ r. r.job.id)

abbrev pub queues_of : List QueueRow → Queues
queues_of ys = finite.from_sorted (map queue_entry ys)

abbrev pub jobs_of : List JobRow → Jobs
jobs_of ys = finite.from_sorted (map job_entry ys)

module _ (ys : List QueueRow) (h : IsTrue (finite.is_sorted (slice_cmp nat_cmp) (map queue_entry ys))) where
  pub get_queue : (k : List ℕ) (i : ℕ) (d : QueueRow) → IsQueuePlace ys k i → finite.get (queues_of ys) k ≡ Some (get_or ys i d)
  get_queue = rows.get_place (slice_cmp nat_cmp) nat_list_cmp_total (λ r. r.name) (λ r. r) ys h

  pub some_queue : (k : List ℕ) (i : ℕ) → IsQueuePlace ys k i → (x : QueueRow) × (finite.get (queues_of ys) k ≡ Some x)
  some_queue = rows.some_place (slice_cmp nat_cmp) nat_list_cmp_total (λ r. r.name) (λ r. r) ys h

  pub get_no_queue : (k : List ℕ) (i : ℕ) → IsQueueGap ys k i → finite.get (queues_of ys) k ≡ None
  get_no_queue = rows.get_gap (slice_cmp nat_cmp) nat_list_cmp_total (λ r. r.name) (λ r. r) ys h

  pub insert_queue : (y : QueueRow) (i : ℕ) → IsQueueGap ys y.name i → queues_of (insert ys i y) ≡ finite.insert (queues_of ys) y.name y
  insert_queue = rows.map_insert (slice_cmp nat_cmp) nat_list_cmp_total (λ r. r.name) (λ r. r) ys h

  pub sorted_insert_queue : (y : QueueRow) (i : ℕ) → IsQueueGap ys y.name i → IsTrue (finite.is_sorted (slice_cmp nat_cmp) (map queue_entry (insert ys i y)))
  sorted_insert_queue = rows.sorted_insert (slice_cmp nat_cmp) nat_list_cmp_total (λ r. r.name) (λ r. r) ys h

  pub set_queue : (y : QueueRow) (k : List ℕ) (i : ℕ) (d : QueueRow) → IsQueuePlace ys k i → (get_or ys i d).name ≡ y.name → queues_of (set ys i y) ≡ finite.insert (queues_of ys) k y
  set_queue = rows.map_set (slice_cmp nat_cmp) nat_list_cmp_total (λ r. r.name) (λ r. r) ys h

  pub sorted_set_queue : (y : QueueRow) (k : List ℕ) (i : ℕ) (d : QueueRow) → IsQueuePlace ys k i → (get_or ys i d).name ≡ y.name → IsTrue (finite.is_sorted (slice_cmp nat_cmp) (map queue_entry (set ys i y)))
  sorted_set_queue = rows.sorted_set (slice_cmp nat_cmp) nat_list_cmp_total (λ r. r.name) (λ r. r) ys h

  pub len_queues : finite.len (queues_of ys) ≡ length ys
  len_queues = rows.len_map (slice_cmp nat_cmp) nat_list_cmp_total (λ r. r.name) (λ r. r) ys h

  pub values_queues : finite.values (queues_of ys) ≡ map (λ r. r) ys
  values_queues = rows.values_map (slice_cmp nat_cmp) nat_list_cmp_total (λ r. r.name) (λ r. r) ys h

  pub keys_queues : finite.keys (queues_of ys) ≡ map (λ r. r.name) ys
  keys_queues = ap (map (λ e. e.0)) (rows.entries_map (slice_cmp nat_cmp) nat_list_cmp_total (λ r. r.name) (λ r. r) ys h) ∙ firsts ys
    where
      firsts : (zs : List QueueRow) → map (λ e. e.0) (map queue_entry zs) ≡ map (λ r. r.name) zs
      firsts [] = refl
      firsts (z ∷ zs) = ap (λ ks. z.name ∷ ks) (firsts zs)

module _ (ys : List JobRow) (h : IsTrue (finite.is_sorted nat_cmp (map job_entry ys))) where
  pub get_job : (k : ℕ) (i : ℕ) (d : JobRow) → IsJobPlace ys k i → finite.get (jobs_of ys) k ≡ Some (job_of (get_or ys i d))
  get_job = rows.get_place nat_cmp nat_cmp_total (λ r. r.job.id) job_of ys h

  pub some_job : (k i : ℕ) → IsJobPlace ys k i → (x : Job) × (finite.get (jobs_of ys) k ≡ Some x)
  some_job = rows.some_place nat_cmp nat_cmp_total (λ r. r.job.id) job_of ys h

  pub get_no_job : (k : ℕ) (i : ℕ) → IsJobGap ys k i → finite.get (jobs_of ys) k ≡ None
  get_no_job = rows.get_gap nat_cmp nat_cmp_total (λ r. r.job.id) job_of ys h

  pub insert_job : (y : JobRow) (i : ℕ) → IsJobGap ys y.job.id i → jobs_of (insert ys i y) ≡ finite.insert (jobs_of ys) y.job.id (job_of y)
  insert_job = rows.map_insert nat_cmp nat_cmp_total (λ r. r.job.id) job_of ys h

  pub sorted_insert_job : (y : JobRow) (i : ℕ) → IsJobGap ys y.job.id i → IsTrue (finite.is_sorted nat_cmp (map job_entry (insert ys i y)))
  sorted_insert_job = rows.sorted_insert nat_cmp nat_cmp_total (λ r. r.job.id) job_of ys h

  pub set_job : (y : JobRow) (k i : ℕ) (d : JobRow) → IsJobPlace ys k i → (get_or ys i d).job.id ≡ y.job.id → jobs_of (set ys i y) ≡ finite.insert (jobs_of ys) k (job_of y)
  set_job = rows.map_set nat_cmp nat_cmp_total (λ r. r.job.id) job_of ys h

  pub sorted_set_job : (y : JobRow) (k i : ℕ) (d : JobRow) → IsJobPlace ys k i → (get_or ys i d).job.id ≡ y.job.id → IsTrue (finite.is_sorted nat_cmp (map job_entry (set ys i y)))
  sorted_set_job = rows.sorted_set nat_cmp nat_cmp_total (λ r. r.job.id) job_of ys h

  pub remove_job : (k i : ℕ) → IsJobPlace ys k i → jobs_of (remove ys i) ≡ finite.remove (jobs_of ys) k
  remove_job = rows.map_remove nat_cmp nat_cmp_total (λ r. r.job.id) job_of finite.nat_cmp-IsAntisymmetric ys h

  pub sorted_remove_job : (i : ℕ) → i < length ys → IsTrue (finite.is_sorted nat_cmp (map job_entry (remove ys i)))
  sorted_remove_job = rows.sorted_remove nat_cmp nat_cmp_total (λ r. r.job.id) job_of finite.nat_cmp-IsAntisymmetric ys h

  -- A lookup among the rows returns the same as the map.
  pub find_job : (k : ℕ) → finite.find nat_cmp k (map job_entry ys) ≡ finite.get (jobs_of ys) k
  find_job k = sym (finite.get-from_sorted nat_cmp (map job_entry ys) k (rows.t_from _ h))

  pub values_jobs : finite.values (jobs_of ys) ≡ map job_of ys
  values_jobs = rows.values_map nat_cmp nat_cmp_total (λ r. r.job.id) job_of ys h

  pub keys_jobs : finite.keys (jobs_of ys) ≡ map (λ r. r.job.id) ys
  keys_jobs = ap (map (λ e. e.0)) (rows.entries_map nat_cmp nat_cmp_total (λ r. r.job.id) job_of ys h) ∙ firsts ys
    where
      firsts : (zs : List JobRow) → map (λ e. e.0) (map job_entry zs) ≡ map (λ r. r.job.id) zs
      firsts [] = refl
      firsts (z ∷ zs) = ap (λ ks. z.job.id ∷ ks) (firsts zs)

pub map-same : {X : Type 0} (xs : List X) → map (λ x. x) xs ≡ xs
map-same [] = refl
map-same (x ∷ xs) = ap (λ ys. x ∷ ys) (map-same xs)

-- A key cannot both exist and be missing.
pub there_and_not : {X : Type 0} (o p : Option X) (x : X) → o ≡ Some x → p ≡ None → o ≡ p → ⊥
there_and_not o p x there absent same = cc

-- A key that must exist cannot be missing.
pub needed_and_not : {X : Type 0} (o p : Option X) → IsSome p → o ≡ None → o ≡ p → ⊥
needed_and_not o None needed absent same = absurd (cc)
needed_and_not o (Some x) needed absent same = cc
