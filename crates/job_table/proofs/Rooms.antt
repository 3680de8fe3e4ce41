-- The room next to the rows, when rows are inserted or replaced.
use Rattle.std.proofs.Common.{◌≡◌, ℕ, zero, suc, ◌+◌, ◌++◌, ◌-◌, ◌<◌, ◌≤◌, Bool, true, false, cond, IsTrue, List, [], ◌∷◌, length, get_or, set, map, Option, Some, None, unwrap_or, refl, sym, ap, subst, ◌∙◌, arith, Vec, Global}
use Rattle.std.specs.List.{insert, remove}
use Rattle.std.specs.Vec.{vec_len, vec_capacity}
use Rattle.std.specs.Ordering.{nat_cmp, is_eq}
use Rattle.std.specs.Cmp.{nat_cmp_total}
use Rattle.std.specs.FinMap as finite
use Rattle.spool_types.specs.Phases.{has_ended}
use Rattle.spool_types.specs.State.{Job, job_of}
use Rattle.spool_types.specs.declared.rows.JobRow.{JobRow}
use Rattle.job_table.specs.Over.{is_over_by}
use Rattle.job_table.specs.Contents.{Contents, Room, HasNoMore, places_of}
use Rattle.extents.specs.declared.extent.Extent.{Extent}
use Rattle.extents.specs.Extents.{size_of}
use Rattle.job_table.specs.DocumentLengths.{document_len}
use Rattle.job_table.specs.TableRows.{document_spare, document_entry, place_entry, job_entry, IsFreed, HoldsDocument, HoldDocuments, KeepsDocument}
use Rattle.job_rows.specs.RowPositions.{IsPosition}
use Rattle.job_table.proofs.Changes.{some_same, same_number}
use Rattle.job_table.proofs.Rows as rows

pub same_room : (n : ℕ) → n ≤ n
same_room n = omega arith

pub fits : {X : Type 0} (v : Vec X Global) → 0 < vec_capacity v - vec_len v → vec_len v < vec_capacity v
fits v room = omega arith

-- Two changes in order.
pub no_more_then : (a b c : Room) → HasNoMore a b → HasNoMore b c → HasNoMore a c
no_more_then a b c first second = record {
  queues = omega (arith, first.queues, second.queues);
  jobs = omega (arith, first.jobs, second.jobs);
  documents = λ j. omega (arith, first.documents j, second.documents j);
  reasons = omega (arith, first.reasons, second.reasons);
  attributes = omega (arith, first.attributes, second.attributes);
}

-- Rooms of equal contents.
pub room_seen : {a b : Contents} {r : Room} → a ≡ b → HasNoMore a.room r → HasNoMore b.room r
room_seen {r = r} same more = subst (λ v. HasNoMore v.room r) same more

-- The room of a document among rows.
abbrev pub room_among : List JobRow → ℕ → ℕ
room_among ys j = unwrap_or (finite.find nat_cmp j (map document_entry ys)) 0

at_most_either : (b : Bool) (m n : ℕ) (o p : Option ℕ) → m ≤ n → unwrap_or o 0 ≤ unwrap_or p 0 → unwrap_or (cond b (Some m) o) 0 ≤ unwrap_or (cond b (Some n) p) 0
at_most_either true m n o p le rest = le
at_most_either false m n o p le rest = rest

none_more : (b : Bool) (n : ℕ) (o : Option ℕ) → n ≡ 0 → unwrap_or (cond b (Some n) o) 0 ≤ unwrap_or o 0
none_more true n o none = rw none (omega arith)
none_more false n o none = omega arith

pub room_set : (ys : List JobRow) (i : ℕ) (y d : JobRow) → i < length ys → y.job.id ≡ (get_or ys i d).job.id → document_spare y ≤ document_spare (get_or ys i d) → (j : ℕ) → room_among (set ys i y) j ≤ room_among ys j
room_set [] i y d lt same le j = absurd (omega arith)
room_set (z ∷ zs) zero y d lt same le j =
    subst (λ n. unwrap_or (cond (is_eq (nat_cmp j n)) (Some (document_spare y)) (finite.find nat_cmp j (map document_entry zs))) 0 ≤ room_among (z ∷ zs) j) (sym same)
    (at_most_either (is_eq (nat_cmp j z.job.id)) (document_spare y) (document_spare z) (finite.find nat_cmp j (map document_entry zs)) (finite.find nat_cmp j (map document_entry zs)) le (omega arith))
room_set (z ∷ zs) (suc i) y d lt same le j =
    at_most_either (is_eq (nat_cmp j z.job.id)) (document_spare z) (document_spare z) (finite.find nat_cmp j (map document_entry (set zs i y))) (finite.find nat_cmp j (map document_entry zs)) (omega arith) (room_set zs i y d (omega arith) same le j)

pub room_insert : (ys : List JobRow) (i : ℕ) (y : JobRow) → i ≤ length ys → document_spare y ≡ 0 → (j : ℕ) → room_among (insert ys i y) j ≤ room_among ys j
room_insert [] zero y le none j = none_more (is_eq (nat_cmp j y.job.id)) (document_spare y) None none
room_insert [] (suc i) y le none j = absurd (omega arith)
room_insert (z ∷ zs) zero y le none j = none_more (is_eq (nat_cmp j y.job.id)) (document_spare y) (finite.find nat_cmp j (map document_entry (z ∷ zs))) none
room_insert (z ∷ zs) (suc i) y le none j =
    at_most_either (is_eq (nat_cmp j z.job.id)) (document_spare z) (document_spare z) (finite.find nat_cmp j (map document_entry (insert zs i y))) (finite.find nat_cmp j (map document_entry zs)) (omega arith) (room_insert zs i y (omega arith) none j)

less_unless : (b : Bool) (o : Option ℕ) → unwrap_or (cond b None o) 0 ≤ unwrap_or o 0
less_unless true o = omega arith
less_unless false o = omega arith

-- The rooms and places after a row was removed.
module _ (ys : List JobRow) (sorted : IsTrue (finite.is_sorted nat_cmp (map job_entry ys))) (j at : ℕ) (place : IsPosition nat_cmp (λ (r : JobRow). r.job.id) ys j at) where
  pub room_remove : (k : ℕ) → room_among (remove ys at) k ≤ room_among ys k
  room_remove k =
      subst (λ o. unwrap_or o 0 ≤ room_among ys k)
      (sym (rows.find_remove nat_cmp nat_cmp_total (λ (r : JobRow). r.job.id) document_spare finite.nat_cmp-IsAntisymmetric ys
      (rows.sorted_alike nat_cmp (λ (r : JobRow). r.job.id) document_spare job_of ys ∙ sorted) j at place k))
      (less_unless (is_eq (nat_cmp k j)) (finite.find nat_cmp k (map document_entry ys)))

  pub places_remove : (k : ℕ) → ¬ (k ≡ j) → unwrap_or (finite.find nat_cmp k (map place_entry (remove ys at))) [] ≡ unwrap_or (finite.find nat_cmp k (map place_entry ys)) []
  places_remove k other =
      ap (λ o. unwrap_or o [])
      (rows.find_remove nat_cmp nat_cmp_total (λ (r : JobRow). r.job.id) (λ (r : JobRow). r.document.items) finite.nat_cmp-IsAntisymmetric ys
      (rows.sorted_alike nat_cmp (λ (r : JobRow). r.job.id) (λ (r : JobRow). r.document.items) job_of ys ∙ sorted) j at place k
      ∙ either (is_eq (nat_cmp k j)) refl)
    where
      either : (b : Bool) → is_eq (nat_cmp k j) ≡ b → cond b None (finite.find nat_cmp k (map place_entry ys)) ≡ finite.find nat_cmp k (map place_entry ys)
      either true same = absurd (other (same_number j k same))
      either false apart = refl

pub holds_remove : (ys : List JobRow) (i : ℕ) → i < length ys → HoldDocuments ys → HoldDocuments (remove ys i)
holds_remove [] i lt holds = absurd (omega arith)
holds_remove (z ∷ zs) zero lt holds = holds.1
holds_remove (z ∷ zs) (suc i) lt holds = (holds.0, holds_remove zs i (omega arith) holds.1)

pub holds_set : (ys : List JobRow) (i : ℕ) (y d : JobRow) → i < length ys → (HoldsDocument (get_or ys i d) → HoldsDocument y) → HoldDocuments ys → HoldDocuments (set ys i y)
holds_set [] i y d lt keeps holds = absurd (omega arith)
holds_set (z ∷ zs) zero y d lt keeps holds = (keeps holds.0, holds.1)
holds_set (z ∷ zs) (suc i) y d lt keeps holds = (holds.0, holds_set zs i y d (omega arith) keeps holds.1)

pub holds_insert : (ys : List JobRow) (i : ℕ) (y : JobRow) → i ≤ length ys → HoldsDocument y → HoldDocuments ys → HoldDocuments (insert ys i y)
holds_insert [] zero y le new holds = (new, tt)
holds_insert [] (suc i) y le new holds = absurd (omega arith)
holds_insert (z ∷ zs) zero y le new holds = (new, holds)
holds_insert (z ∷ zs) (suc i) y le new holds = (holds.0, holds_insert zs i y (omega arith) new holds.1)

pub holds_at : (ys : List JobRow) (i : ℕ) (d : JobRow) → i < length ys → HoldDocuments ys → HoldsDocument (get_or ys i d)
holds_at [] i d lt holds = absurd (omega arith)
holds_at (z ∷ zs) zero d lt holds = holds.0
holds_at (z ∷ zs) (suc i) d lt holds = holds_at zs i d (omega arith) holds.1

nothing_left : (z : JobRow) → vec_capacity z.document ≡ 0 → document_spare z ≡ 0
nothing_left z none = omega arith

freed_here : (rest : Option Job) (room : Option ℕ) (z : JobRow) (r : Job) (b : Bool) → IsFreed z → has_ended r.phase ≡ true → cond b (Some (job_of z)) rest ≡ Some r → (rest ≡ Some r → unwrap_or room 0 ≡ 0) → unwrap_or (cond b (Some (document_spare z)) room) 0 ≡ 0
freed_here rest room z r true freed over e later = nothing_left z (freed (ap (λ (x : Job). has_ended x.phase) (some_same (job_of z) r e) ∙ over))
freed_here rest room z r false freed over e later = later e

-- A job that has ended has no room.
pub freed_room : (ys : List JobRow) → HoldDocuments ys → (j : ℕ) (r : Job) → finite.find nat_cmp j (map job_entry ys) ≡ Some r → has_ended r.phase ≡ true → room_among ys j ≡ 0
freed_room [] freed j r there over = refl
freed_room (z ∷ zs) freed j r there over = freed_here _ _ z r (is_eq (nat_cmp j z.job.id)) freed.0.freed over there (λ later. freed_room zs freed.1 j r later over)

-- ## The places of documents, when rows are inserted or replaced

abbrev pub places_among : List JobRow → ℕ → List Extent
places_among ys j = places_of (map place_entry ys) j

either_place : (b : Bool) (x y : List Extent) (o p : Option (List Extent)) → x ≡ y → unwrap_or o [] ≡ unwrap_or p [] → unwrap_or (cond b (Some x) o) [] ≡ unwrap_or (cond b (Some y) p) []
either_place true x y o p same rest = same
either_place false x y o p same rest = rest

-- A row with the same document.
pub places_same : (ys : List JobRow) (i : ℕ) (y d : JobRow) → i < length ys → y.job.id ≡ (get_or ys i d).job.id → y.document.items ≡ (get_or ys i d).document.items → (j : ℕ) → places_among (set ys i y) j ≡ places_among ys j
places_same [] i y d lt same document j = absurd (omega arith)
places_same (z ∷ zs) zero y d lt same document j =
    ap (λ n. unwrap_or (cond (is_eq (nat_cmp j n)) (Some y.document.items) (finite.find nat_cmp j (map place_entry zs))) []) same
    ∙ either_place (is_eq (nat_cmp j z.job.id)) y.document.items z.document.items _ _ document refl
places_same (z ∷ zs) (suc i) y d lt same document j =
    either_place (is_eq (nat_cmp j z.job.id)) z.document.items z.document.items _ _ refl (places_same zs i y d (omega arith) same document j)

-- The job that is found, if any, has ended.
abbrev pub ended_found : Option Job → Bool
ended_found None = false
ended_found (Some r) = has_ended r.phase

pub lasts_found : (highest j : ℕ) (o : Option Job) → is_over_by highest j o ≡ false → ended_found o ≡ false
lasts_found highest j None lives = refl
lasts_found highest j (Some r) lives = lives

-- A row with the same document, unless its job has ended.
kept_here : (b : Bool) (y : JobRow) (x : List Extent) (found : Option Job) (o p : Option (List Extent)) → (has_ended y.job.phase ≡ false → y.document.items ≡ x) → ended_found (cond b (Some (job_of y)) found) ≡ false → unwrap_or o [] ≡ unwrap_or p [] → unwrap_or (cond b (Some y.document.items) o) [] ≡ unwrap_or (cond b (Some x) p) []
kept_here true y x found o p keeps lives rest = keeps lives
kept_here false y x found o p keeps lives rest = rest

kept_later : (b : Bool) (x : List Extent) (z : Job) (found : Option Job) (o p : Option (List Extent)) → ended_found (cond b (Some z) found) ≡ false → (ended_found found ≡ false → unwrap_or o [] ≡ unwrap_or p []) → unwrap_or (cond b (Some x) o) [] ≡ unwrap_or (cond b (Some x) p) []
kept_later true x z found o p lives later = refl
kept_later false x z found o p lives later = later lives

pub places_kept : (ys : List JobRow) (i : ℕ) (y d : JobRow) → i < length ys → y.job.id ≡ (get_or ys i d).job.id → KeepsDocument (get_or ys i d) y → (j : ℕ) → ended_found (finite.find nat_cmp j (map job_entry (set ys i y))) ≡ false → places_among (set ys i y) j ≡ places_among ys j
places_kept [] i y d lt same keeps j lives = absurd (omega arith)
places_kept (z ∷ zs) zero y d lt same keeps j lives =
    kept_here (is_eq (nat_cmp j y.job.id)) y z.document.items (finite.find nat_cmp j (map job_entry zs)) (finite.find nat_cmp j (map place_entry zs)) (finite.find nat_cmp j (map place_entry zs)) keeps lives refl
    ∙ ap (λ n. unwrap_or (cond (is_eq (nat_cmp j n)) (Some z.document.items) (finite.find nat_cmp j (map place_entry zs))) []) same
places_kept (z ∷ zs) (suc i) y d lt same keeps j lives =
    kept_later (is_eq (nat_cmp j z.job.id)) z.document.items (job_of z) (finite.find nat_cmp j (map job_entry (set zs i y))) (finite.find nat_cmp j (map place_entry (set zs i y))) (finite.find nat_cmp j (map place_entry zs)) lives
    (λ later. places_kept zs i y d (omega arith) same keeps j later)

-- Another row is replaced.
pub places_other : (ys : List JobRow) (i : ℕ) (y d : JobRow) → i < length ys → y.job.id ≡ (get_or ys i d).job.id → (j : ℕ) → is_eq (nat_cmp j y.job.id) ≡ false → places_among (set ys i y) j ≡ places_among ys j
places_other [] i y d lt same j other = absurd (omega arith)
places_other (z ∷ zs) zero y d lt same j other =
    ap (λ b. unwrap_or (cond b (Some y.document.items) (finite.find nat_cmp j (map place_entry zs))) []) other
    ∙ sym (ap (λ b. unwrap_or (cond b (Some z.document.items) (finite.find nat_cmp j (map place_entry zs))) []) (ap (λ n. is_eq (nat_cmp j n)) (sym same) ∙ other))
places_other (z ∷ zs) (suc i) y d lt same j other =
    either_place (is_eq (nat_cmp j z.job.id)) z.document.items z.document.items _ _ refl (places_other zs i y d (omega arith) same j other)

-- The total length of a job's extents is that of its document.
sized_here : (b : Bool) (z : JobRow) (found : Option Job) (o : Option (List Extent)) (r : Job) → size_of z.document.items ≡ document_len (job_of z) → cond b (Some (job_of z)) found ≡ Some r
    → (found ≡ Some r → size_of (unwrap_or o []) ≡ document_len r) → size_of (unwrap_or (cond b (Some z.document.items) o) []) ≡ document_len r
sized_here true z found o r sized e later = sized ∙ ap document_len (some_same (job_of z) r e)
sized_here false z found o r sized e later = later e

pub sized_place : (ys : List JobRow) → HoldDocuments ys → (j : ℕ) (r : Job) → finite.find nat_cmp j (map job_entry ys) ≡ Some r → size_of (places_among ys j) ≡ document_len r
sized_place [] holds j r there = absurd (cc)
sized_place (z ∷ zs) holds j r there = sized_here (is_eq (nat_cmp j z.job.id)) z _ _ r holds.0.sized there (λ later. sized_place zs holds.1 j r later)

-- A new row without a document.
absent_here : (b : Bool) (x : Job) (o : Option Job) (Q : Type 0) → cond b (Some x) o ≡ None → (b ≡ false → o ≡ None → Q) → Q
absent_here true x o Q none rest = absurd (cc)
absent_here false x o Q none rest = rest refl none

pub absent_place : (ys : List JobRow) (j : ℕ) → finite.find nat_cmp j (map job_entry ys) ≡ None → places_among ys j ≡ []
absent_place [] j none = refl
absent_place (z ∷ zs) j none = absent_here (is_eq (nat_cmp j z.job.id)) (job_of z) _ _ none
    (λ other rest. ap (λ b. unwrap_or (cond b (Some z.document.items) (finite.find nat_cmp j (map place_entry zs))) []) other ∙ absent_place zs j rest)

new_place : (b : Bool) (o : Option (List Extent)) (x : List Extent) → x ≡ [] → (b ≡ true → unwrap_or o [] ≡ []) → unwrap_or (cond b (Some x) o) [] ≡ unwrap_or o []
new_place true o x none absent = none ∙ sym (absent refl)
new_place false o x none absent = refl

pub places_insert : (ys : List JobRow) (i : ℕ) (y : JobRow) → i ≤ length ys → y.document.items ≡ [] → finite.find nat_cmp y.job.id (map job_entry ys) ≡ None → (j : ℕ) → places_among (insert ys i y) j ≡ places_among ys j
places_insert [] zero y le none absent j = new_place (is_eq (nat_cmp j y.job.id)) None y.document.items none (λ e. refl)
places_insert [] (suc i) y le none absent j = absurd (omega arith)
places_insert (z ∷ zs) zero y le none absent j = new_place (is_eq (nat_cmp j y.job.id)) (finite.find nat_cmp j (map place_entry (z ∷ zs))) y.document.items none
    (λ e. subst (λ k. places_among (z ∷ zs) k ≡ []) (sym (same_number y.job.id j e)) (absent_place (z ∷ zs) y.job.id absent))
places_insert (z ∷ zs) (suc i) y le none absent j = absent_here (is_eq (nat_cmp y.job.id z.job.id)) (job_of z) _ _ absent
    (λ other rest. either_place (is_eq (nat_cmp j z.job.id)) z.document.items z.document.items _ _ refl (places_insert zs i y (omega arith) none rest j))

-- A row without a document, at the start of the list.
pub places_first : (places : List (ℕ × List Extent)) (y : JobRow) → y.document.items ≡ [] → places_of places y.job.id ≡ [] → (j : ℕ) → places_of (place_entry y ∷ places) j ≡ places_of places j
places_first places y none absent j = new_place (is_eq (nat_cmp j y.job.id)) (finite.find nat_cmp j places) y.document.items none
    (λ e. subst (λ k. places_of places k ≡ []) (sym (same_number y.job.id j e)) absent)

-- The length of one more extent is added.
pub size_more : (xs : List Extent) (x : Extent) → size_of (xs ++ x ∷ []) ≡ size_of xs + x.len
size_more [] x = omega arith
size_more (y ∷ xs) x = let rest = size_more xs x in omega (arith, rest)
