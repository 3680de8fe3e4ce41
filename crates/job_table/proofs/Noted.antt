-- Noting one more extent, and taking the extents of a job.
use Rattle.std.proofs.Common.{◌≡◌, ℕ, ◌-◌, ◌==◌, if◌then◌else◌, Bool, true, false, cond, IsTrue, IsSome, List, [], ◌∷◌, ◌++◌, get_or, set, map, Option, Some, None, unwrap_or, refl, sym, ap, subst, ◌∙◌}
use Rattle.std.specs.Ordering.{nat_cmp, eq_by_cmp}
use Rattle.std.specs.Cmp.{nat_cmp_total}
use Rattle.std.specs.FinMap as finite
use Rattle.extents.specs.declared.extent.Extent.{Extent}
use Rattle.job_table.specs.Contents.{places_of}
use Rattle.job_table.specs.Noted.{new_entry, new_spare, spare_entry}
use Rattle.job_rows.specs.RowPositions.{IsPosition, IsGap}
use Rattle.job_table.specs.declared.new_places.NewDocument.{NewDocument}
use Rattle.job_table.proofs.Changes.{same_itself, same_number}
use Rattle.job_table.proofs.Rows as rows
use Rattle.job_table.proofs.Steps.{same_by, other_by}

some_either : {X : Type 0} (b : Bool) (x : X) (o : Option X) → IsSome o → IsSome (cond b (Some x) o)
some_either true x o there = refl
some_either false x o there = there

other_key : (k j : ℕ) → (¬ (k ≡ j)) → eq_by_cmp nat_cmp k j ≡ false
other_key k j apart = either (eq_by_cmp nat_cmp k j) refl
  where
    either : (b : Bool) → eq_by_cmp nat_cmp k j ≡ b → b ≡ false
    either true e = absurd (apart (same_number j k e))
    either false e = refl

module _ (ds : List NewDocument) (sorted : IsTrue (finite.is_sorted nat_cmp (map new_entry ds))) where
  sorted_spare : IsTrue (finite.is_sorted nat_cmp (map spare_entry ds))
  sorted_spare = rows.sorted_alike nat_cmp (λ (d : NewDocument). d.job) new_spare (λ (d : NewDocument). d.extents.items) ds ∙ sorted

  -- A job without a position is not in the list.
  pub none_there : (j at : ℕ) → IsGap nat_cmp (λ (d : NewDocument). d.job) ds j at → finite.find nat_cmp j (map new_entry ds) ≡ None
  none_there j at gap = rows.find_gap nat_cmp nat_cmp_total (λ (d : NewDocument). d.job) (λ (d : NewDocument). d.extents.items) ds j at gap

  pub no_spare : (j at : ℕ) → IsGap nat_cmp (λ (d : NewDocument). d.job) ds j at → unwrap_or (finite.find nat_cmp j (map spare_entry ds)) 0 ≡ 0
  no_spare j at gap = ap (λ o. unwrap_or o 0) (rows.find_gap nat_cmp nat_cmp_total (λ (d : NewDocument). d.job) new_spare ds j at gap)

  module _ (j at : ℕ) (old : NewDocument) (is_old : old ≡ get_or ds at old) (place : IsPosition nat_cmp (λ (d : NewDocument). d.job) ds j at) where
    pub items_there : places_of (map new_entry ds) j ≡ old.extents.items
    items_there =
        ap (λ o. unwrap_or o []) (rows.find_place nat_cmp nat_cmp_total (λ (d : NewDocument). d.job) (λ (d : NewDocument). d.extents.items) ds sorted j at old place)
        ∙ ap (λ (d : NewDocument). d.extents.items) (sym is_old)

    pub spare_there : unwrap_or (finite.find nat_cmp j (map spare_entry ds)) 0 ≡ new_spare old
    spare_there =
        ap (λ o. unwrap_or o 0) (rows.find_place nat_cmp nat_cmp_total (λ (d : NewDocument). d.job) new_spare ds sorted_spare j at old place)
        ∙ ap new_spare (sym is_old)

    -- A document is replaced by another one of the same job.
    module _ (new : NewDocument) (same : new.job ≡ old.job) where
      same_job : (get_or ds at old).job ≡ new.job
      same_job = ap (λ (d : NewDocument). d.job) (sym is_old) ∙ sym same

      pub sorted_after : IsTrue (finite.is_sorted nat_cmp (map new_entry (set ds at new)))
      sorted_after = rows.sorted_set nat_cmp nat_cmp_total (λ (d : NewDocument). d.job) (λ (d : NewDocument). d.extents.items) ds sorted new j at old place same_job

      find_set : {X : Type 0} (value : NewDocument → X) → IsTrue (finite.is_sorted nat_cmp (map (λ (d : NewDocument). (d.job, value d)) ds)) → (k : ℕ) → finite.find nat_cmp k (map (λ (d : NewDocument). (d.job, value d)) (set ds at new)) ≡ cond (eq_by_cmp nat_cmp k j) (Some (value new)) (finite.find nat_cmp k (map (λ (d : NewDocument). (d.job, value d)) ds))
      find_set value rising k =
          sym (finite.get-from_sorted nat_cmp (map (λ (d : NewDocument). (d.job, value d)) (set ds at new)) k (rows.t_from _ (rows.sorted_set nat_cmp nat_cmp_total (λ (d : NewDocument). d.job) value ds rising new j at old place same_job)))
          ∙ ap (λ m. finite.get m k) (rows.map_set nat_cmp nat_cmp_total (λ (d : NewDocument). d.job) value ds rising new j at old place same_job)
          ∙ finite.get-insert nat_cmp_total (finite.from_sorted (map (λ (d : NewDocument). (d.job, value d)) ds)) j (value new) k
          ∙ ap (cond (eq_by_cmp nat_cmp k j) (Some (value new))) (finite.get-from_sorted nat_cmp (map (λ (d : NewDocument). (d.job, value d)) ds) k (rows.t_from _ rising))

      pub noted_others : (k : ℕ) → (¬ (k ≡ j)) → finite.find nat_cmp k (map new_entry (set ds at new)) ≡ finite.find nat_cmp k (map new_entry ds)
      noted_others k apart =
          find_set (λ (d : NewDocument). d.extents.items) sorted k
          ∙ ap (λ b. cond b (Some new.extents.items) (finite.find nat_cmp k (map new_entry ds))) (other_key k j apart)

      pub still_there : (k : ℕ) → IsSome (finite.find nat_cmp k (map new_entry ds)) → IsSome (finite.find nat_cmp k (map new_entry (set ds at new)))
      still_there k there = subst IsSome (sym (find_set (λ (d : NewDocument). d.extents.items) sorted k)) (some_either (eq_by_cmp nat_cmp k j) new.extents.items (finite.find nat_cmp k (map new_entry ds)) there)

      pub spare_others : (k : ℕ) → (¬ (k ≡ j)) → unwrap_or (finite.find nat_cmp k (map spare_entry (set ds at new))) 0 ≡ unwrap_or (finite.find nat_cmp k (map spare_entry ds)) 0
      spare_others k apart = ap (λ o. unwrap_or o 0)
          (find_set new_spare sorted_spare k
          ∙ ap (λ b. cond b (Some (new_spare new)) (finite.find nat_cmp k (map spare_entry ds))) (other_key k j apart))

      own_key : (k : ℕ) → (j == k) ≡ true → eq_by_cmp nat_cmp k j ≡ true
      own_key k e = subst (λ n. eq_by_cmp nat_cmp n j ≡ true) (same_by j k e) (same_itself j)

      pub noted_more : (x : Extent) → new.extents.items ≡ old.extents.items ++ x ∷ [] → (k : ℕ) → places_of (map new_entry (set ds at new)) k ≡ (if j == k then places_of (map new_entry ds) k ++ x ∷ [] else places_of (map new_entry ds) k)
      noted_more x more k = ap (λ o. unwrap_or o []) (find_set (λ (d : NewDocument). d.extents.items) sorted k) ∙ either (j == k) refl
        where
          either : (b : Bool) → (j == k) ≡ b → unwrap_or (cond (eq_by_cmp nat_cmp k j) (Some new.extents.items) (finite.find nat_cmp k (map new_entry ds))) [] ≡ (if b then places_of (map new_entry ds) k ++ x ∷ [] else places_of (map new_entry ds) k)
          either true e =
              ap (λ b. unwrap_or (cond b (Some new.extents.items) (finite.find nat_cmp k (map new_entry ds))) []) (own_key k e)
              ∙ more
              ∙ ap (λ xs. xs ++ x ∷ []) (sym items_there ∙ ap (places_of (map new_entry ds)) (same_by j k e))
          either false e = ap (λ b. unwrap_or (cond b (Some new.extents.items) (finite.find nat_cmp k (map new_entry ds))) []) (other_by j k e)

      pub spare_less : new_spare new ≡ new_spare old - 1 → (k : ℕ) → unwrap_or (finite.find nat_cmp k (map spare_entry (set ds at new))) 0 ≡ (if j == k then unwrap_or (finite.find nat_cmp k (map spare_entry ds)) 0 - 1 else unwrap_or (finite.find nat_cmp k (map spare_entry ds)) 0)
      spare_less less k = ap (λ o. unwrap_or o 0) (find_set new_spare sorted_spare k) ∙ either (j == k) refl
        where
          either : (b : Bool) → (j == k) ≡ b → unwrap_or (cond (eq_by_cmp nat_cmp k j) (Some (new_spare new)) (finite.find nat_cmp k (map spare_entry ds))) 0 ≡ (if b then unwrap_or (finite.find nat_cmp k (map spare_entry ds)) 0 - 1 else unwrap_or (finite.find nat_cmp k (map spare_entry ds)) 0)
          either true e =
              ap (λ b. unwrap_or (cond b (Some (new_spare new)) (finite.find nat_cmp k (map spare_entry ds))) 0) (own_key k e)
              ∙ less
              ∙ ap (λ n. n - 1) (sym spare_there ∙ ap (λ n. unwrap_or (finite.find nat_cmp n (map spare_entry ds)) 0) (same_by j k e))
          either false e = ap (λ b. unwrap_or (cond b (Some (new_spare new)) (finite.find nat_cmp k (map spare_entry ds))) 0) (other_by j k e)
