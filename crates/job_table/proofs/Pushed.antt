-- The effect of an appended row on the state of the rows.
use Rattle.std.proofs.Common.{◌≡◌, ℕ, ◌<◌, get_or, Bool, true, false, cond, List, [], ◌∷◌, ◌++◌, length, map, unwrap_or, Option, Some, refl, sym, ap, subst, ◌∙◌, Vec, Global}
use Rattle.std.specs.Prelude.{All}
use Rattle.std.specs.List.{insert}
use Rattle.std.proofs.lemmas.Cmp.{ranked}
use Rattle.std.specs.declared.cmp.Ordering.TheVariants.{Less}
use Rattle.std.specs.Ordering.{nat_cmp, is_eq}
use Rattle.extents.specs.declared.extent.Extent.{Extent}
use Rattle.std.specs.Cmp.{nat_cmp_total}
use Rattle.std.specs.Cmp.Lexicographic.{slice_cmp, nat_list_cmp_total}
use Rattle.std.specs.FinMap as finite
use Rattle.spool_types.specs.declared.rows.QueueRow.{QueueRow}
use Rattle.spool_types.specs.declared.rows.JobRow.{JobRow}
use Rattle.spool_types.specs.State.{job_of}
use Rattle.job_rows.specs.NumberedRows.{Listed}
use Rattle.job_table.specs.Contents.{places_at, places_of}
use Rattle.job_table.specs.Legal.{IsLegal}
use Rattle.job_table.specs.Loading.{IsAbove, with_queue, with_job}
use Rattle.job_table.specs.TableRows.{HoldsDocument, place_entry}
use Rattle.job_table.specs.TableFields.{contents_of, IsOrdered}
use Rattle.job_table.specs.declared.store.Store.TheInside.{Inside}
use Rattle.job_table.proofs.Above.{insert_last, above_each, last_gap, absent_above}
use Rattle.job_table.proofs.Changes.{same_number}
use Rattle.job_table.proofs.Numbered.{each_below, numbers_pushed}
use Rattle.job_table.proofs.Rooms.{holds_insert}
use Rattle.job_table.proofs.Tables.{IsQueueGap, IsJobGap, insert_queue, sorted_insert_queue, keys_queues, insert_job, sorted_insert_job, keys_jobs}

last_true : (here own : Bool) (z y : List Extent) (all first : Option (List Extent)) → here ≡ true → own ≡ false → unwrap_or (cond here (Some z) all) [] ≡ unwrap_or (cond own (Some y) (cond here (Some z) first)) []
last_true true false z y all first is other = refl
last_true true true z y all first is other = absurd (cc)
last_true false own z y all first is other = absurd (cc)

last_false : (here own : Bool) (z y : List Extent) (all first : Option (List Extent)) → here ≡ false → unwrap_or all [] ≡ unwrap_or (cond own (Some y) first) [] → unwrap_or (cond here (Some z) all) [] ≡ unwrap_or (cond own (Some y) (cond here (Some z) first)) []
last_false false true z y all first is rest = rest
last_false false false z y all first is rest = rest
last_false true own z y all first is rest = absurd (cc)

-- The places of an appended row are found as if it were the first.
found_step : (z y : JobRow) (zs : List JobRow) (j : ℕ) → nat_cmp z.job.id y.job.id ≡ Less → places_of (map place_entry (zs ++ y ∷ [])) j ≡ places_of (place_entry y ∷ map place_entry zs) j
    → (b : Bool) → is_eq (nat_cmp j z.job.id) ≡ b → places_of (map place_entry (z ∷ (zs ++ y ∷ []))) j ≡ places_of (place_entry y ∷ place_entry z ∷ map place_entry zs) j
found_step z y zs j less rest true here =
    last_true (is_eq (nat_cmp j z.job.id)) (is_eq (nat_cmp j y.job.id)) z.document.items y.document.items (finite.find nat_cmp j (map place_entry (zs ++ y ∷ []))) (finite.find nat_cmp j (map place_entry zs)) here
    (ap (λ (k : ℕ). is_eq (nat_cmp k y.job.id)) (same_number z.job.id j here) ∙ ap is_eq less)
found_step z y zs j less rest false other =
    last_false (is_eq (nat_cmp j z.job.id)) (is_eq (nat_cmp j y.job.id)) z.document.items y.document.items (finite.find nat_cmp j (map place_entry (zs ++ y ∷ []))) (finite.find nat_cmp j (map place_entry zs)) other rest

found_last : (ys : List JobRow) (y : JobRow) → IsAbove nat_cmp y.job.id (map (λ (r : JobRow). r.job.id) ys) → (j : ℕ) → places_of (map place_entry (ys ++ y ∷ [])) j ≡ places_of (place_entry y ∷ map place_entry ys) j
found_last [] y above j = refl
found_last (z ∷ zs) y above j = found_step z y zs j above.0 (found_last zs y above.1 j) (is_eq (nat_cmp j z.job.id)) refl

above_entries : (k : ℕ) (ys : List JobRow) → IsAbove nat_cmp k (map (λ (r : JobRow). r.job.id) ys) → IsAbove nat_cmp k (map (λ (e : ℕ × List Extent). e.0) (map place_entry ys))
above_entries k [] above = tt
above_entries k (y ∷ ys) above = (above.0, above_entries k ys above.1)

pub all_above : (k : ℕ) (ys : List JobRow) → IsAbove nat_cmp k (map (λ (r : JobRow). r.job.id) ys) → All (λ n. n < k) (map (λ (r : JobRow). r.job.id) ys)
all_above k ys above = each_below ys k (λ i d lt. ranked (get_or ys i d).job.id k Less (sym (above_each nat_cmp nat_cmp_total (λ (r : JobRow). r.job.id) job_of k ys above i d lt)))

module _ (a : Inside) (ordered : IsOrdered a) where
  module _ (row : QueueRow) (vs : Vec QueueRow Global) (above : IsAbove (slice_cmp nat_cmp) row.name (finite.keys (contents_of a).state.queues)) (items : vs.items ≡ a.queues.items ++ row ∷ []) where
    queue_gap : IsQueueGap a.queues.items row.name (length a.queues.items)
    queue_gap = last_gap (slice_cmp nat_cmp) nat_list_cmp_total (λ r. r.name) (λ r. r) row.name a.queues.items (subst (IsAbove (slice_cmp nat_cmp) row.name) (keys_queues a.queues.items ordered.queues) above)

    queue_last : vs.items ≡ insert a.queues.items (length a.queues.items) row
    queue_last = items ∙ sym (insert_last a.queues.items row)

    pub push_queue_state : (contents_of (record a { queues = vs })).state ≡ with_queue (contents_of a).state row
    push_queue_state = rw queue_last (ap (λ q. record (contents_of a).state { queues = q }) (insert_queue a.queues.items ordered.queues row (length a.queues.items) queue_gap))

    pub push_queue_ordered : IsLegal (with_queue (contents_of a).state row) → IsOrdered (record a { queues = vs })
    push_queue_ordered legal = record {
      queues = rw queue_last (sorted_insert_queue a.queues.items ordered.queues row (length a.queues.items) queue_gap);
      jobs = ordered.jobs;
      own = ordered.own;
      highest = ordered.highest;
      documents = ordered.documents;
      legal = subst IsLegal (sym push_queue_state) legal;
    }

  module _ (row : JobRow) (vs : Listed) (above : IsAbove nat_cmp row.job.id (finite.keys (contents_of a).state.jobs)) (items : vs.items ≡ a.jobs.items ++ row ∷ []) where
    job_gap : IsJobGap a.jobs.items row.job.id (length a.jobs.items)
    job_gap = last_gap nat_cmp nat_cmp_total (λ r. r.job.id) job_of row.job.id a.jobs.items (subst (IsAbove nat_cmp row.job.id) (keys_jobs a.jobs.items ordered.jobs) above)

    job_last : vs.items ≡ insert a.jobs.items (length a.jobs.items) row
    job_last = items ∙ sym (insert_last a.jobs.items row)

    pub push_job_state : (contents_of (record a { jobs = vs })).state ≡ with_job (contents_of a).state (job_of row)
    push_job_state = rw job_last (ap (λ js. record (contents_of a).state { jobs = js }) (insert_job a.jobs.items ordered.jobs row (length a.jobs.items) job_gap))

    pub push_job_ordered : vs.numbers ≡ a.jobs.numbers ++ row.job.id ∷ [] → HoldsDocument row → IsLegal (with_job (contents_of a).state (job_of row)) → IsOrdered (record a { jobs = vs })
    push_job_ordered numbers holds legal = record {
      queues = ordered.queues;
      jobs = rw job_last (sorted_insert_job a.jobs.items ordered.jobs row (length a.jobs.items) job_gap);
      own = numbers_pushed a.jobs vs row ordered.own numbers items;
      highest = ordered.highest;
      documents = rw job_last (holds_insert a.jobs.items (length a.jobs.items) row job_gap.in_range holds ordered.documents);
      legal = subst IsLegal (sym push_job_state) legal;
    }

    pub push_job_places : (j : ℕ) → places_at (contents_of (record a { jobs = vs })) j ≡ places_of (place_entry row ∷ (contents_of a).places) j
    push_job_places j = ap (λ ys. places_of (map place_entry ys) j) items
        ∙ found_last a.jobs.items row (subst (IsAbove nat_cmp row.job.id) (keys_jobs a.jobs.items ordered.jobs) above) j

  -- A number above all others has no places.
  pub above_places : (k : ℕ) → IsAbove nat_cmp k (finite.keys (contents_of a).state.jobs) → places_at (contents_of a) k ≡ []
  above_places k above = ap (λ o. unwrap_or o []) (absent_above nat_cmp nat_cmp_total (map place_entry a.jobs.items) k (above_entries k a.jobs.items (subst (IsAbove nat_cmp k) (keys_jobs a.jobs.items ordered.jobs) above)))
