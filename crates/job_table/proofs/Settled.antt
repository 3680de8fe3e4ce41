-- The places of the pieces of a listing, when the last job is settled.
use Rattle.std.proofs.Common.{◌≡◌, ℕ, ◌+◌, ◌==◌, if◌then◌else◌, Bool, true, false, cond, List, [], ◌∷◌, ◌++◌, length, Option, Some, None, unwrap_or, refl, sym, ap, ◌∙◌}
use Rattle.std.specs.Option.{option_map}
use Rattle.std.specs.Ordering.{nat_cmp, is_eq}
use Rattle.std.specs.FinMap as finite
use Rattle.extents.specs.declared.extent.Extent.{Extent}
use Rattle.extents.specs.Extents.{size_of}
use Rattle.spool_types.specs.Sent.{with_placed, extent_behind}
use Rattle.spool_types.specs.State.{Job}
use Rattle.job_table.specs.Contents.{places_of}
use Rattle.job_table.specs.Loading.{IsPieceOf}
use Rattle.job_table.specs.LoadingFields.{part_of, with_last_place, IsGrown, IsMeasured}
use Rattle.job_table.specs.TableRows.{place_entry}
use Rattle.job_table.specs.declared.loading.Partial.{Partial}
use Rattle.job_table.proofs.Changes.{same_itself}
use Rattle.job_table.proofs.Rooms.{size_more}
use Rattle.job_table.proofs.Steps.{same_by, other_by}

-- If there is no last job, it has no places.
pub last_none : (o : Option Partial) (places : List (ℕ × List Extent)) → option_map part_of o ≡ None → with_last_place o places ≡ places
last_none None places e = refl
last_none (Some p) places e = absurd (cc)

own_entry : (k id : ℕ) (xs : List Extent) (places : List (ℕ × List Extent)) → id ≡ k → places_of ((id, xs) ∷ places) k ≡ xs
own_entry k id xs places e =
    ap (λ n. unwrap_or (cond (is_eq (nat_cmp k n)) (Some xs) (finite.find nat_cmp k places)) []) e
    ∙ ap (λ b. unwrap_or (cond b (Some xs) (finite.find nat_cmp k places)) []) (same_itself k)

other_entry : (k id : ℕ) (xs : List Extent) (places : List (ℕ × List Extent)) → is_eq (nat_cmp k id) ≡ false → places_of ((id, xs) ∷ places) k ≡ places_of places k
other_entry k id xs places other = ap (λ b. unwrap_or (cond b (Some xs) (finite.find nat_cmp k places)) []) other

-- The last job has the extent of one more piece, and no other document moves.
pub grown_places : (at j : ℕ) (bytes : List ℕ) (o : Option Partial) (q : Partial) (places : List (ℕ × List Extent)) → IsPieceOf (option_map part_of o) j bytes → IsGrown at (length bytes) o (Some q) → (k : ℕ) → places_of (place_entry q.row ∷ places) k ≡ with_placed (places_of (with_last_place o places) k) at k (Some (j, bytes))
grown_places at j bytes None q places next grown k = absurd next
grown_places at j bytes (Some p) q places next grown k = either (j == k) refl
  where
    now_id : q.row.job.id ≡ j
    now_id = ap (λ (x : Job). x.id) grown.0 ∙ next.own

    was_id : p.row.job.id ≡ j
    was_id = next.own

    either : (b : Bool) → (j == k) ≡ b → places_of (place_entry q.row ∷ places) k ≡ (if b then places_of (place_entry p.row ∷ places) k ++ extent_behind at (length bytes) ∷ [] else places_of (place_entry p.row ∷ places) k)
    either true same =
        own_entry k q.row.job.id q.row.document.items places (now_id ∙ same_by j k same)
        ∙ grown.2
        ∙ ap (λ xs. xs ++ extent_behind at (length bytes) ∷ []) (sym (own_entry k p.row.job.id p.row.document.items places (was_id ∙ same_by j k same)))
    either false other =
        other_entry k q.row.job.id q.row.document.items places (ap (λ n. is_eq (nat_cmp k n)) now_id ∙ other_by j k other)
        ∙ sym (other_entry k p.row.job.id p.row.document.items places (ap (λ n. is_eq (nat_cmp k n)) was_id ∙ other_by j k other))

-- The number of bytes increases by the length of the piece.
pub grown_measured : (at count : ℕ) (o : Option Partial) (q : Partial) → IsGrown at count o (Some q) → IsMeasured o → size_of q.row.document.items ≡ q.read
grown_measured at count None q grown measured = absurd (cc)
grown_measured at count (Some p) q grown measured =
    ap size_of grown.2
    ∙ size_more p.row.document.items (extent_behind at count)
    ∙ ap (λ n. n + count) measured
    ∙ sym grown.1
