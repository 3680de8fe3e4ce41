-- Documents at their new places.
use Rattle.std.proofs.Common.{◌≡◌, ℕ, suc, ◌*◌, ◌<◌, ◌≤◌, Bool, true, false, cond, IsTrue, List, [], ◌∷◌, length, get_or, map, Option, Some, unwrap_or, refl, sym, ap, subst, ◌∙◌, arith}
use Rattle.std.proofs.lemmas.List.{get_or_default}
use Rattle.std.specs.declared.cmp.Ordering.{Ordering}
use Rattle.std.specs.declared.cmp.Ordering.TheVariants.{Less, Equal}
use Rattle.std.specs.Ordering.{nat_cmp, is_eq}
use Rattle.std.specs.Cmp.{nat_cmp_total, tied_itself}
use Rattle.std.specs.FinMap as finite
use Rattle.extents.specs.declared.extent.Extent.{Extent}
use Rattle.extents.specs.Extents.{size_of}
use Rattle.spool_types.specs.Limits.{longest_send}
use Rattle.spool_types.specs.Phases.{has_ended}
use Rattle.spool_types.specs.State.{State, Job, job_of, job_at}
use Rattle.spool_types.specs.declared.rows.JobRow.{JobRow}
use Rattle.job_rows.specs.NumberedRows.{Listed}
use Rattle.job_table.specs.Contents.{Noted, HasMoves, document_room, move_room, places_at, places_of}
use Rattle.job_table.specs.DocumentLengths.{document_len}
use Rattle.job_table.specs.Lanes.{AreBeside}
use Rattle.job_table.specs.Legal.{IsLegal}
use Rattle.job_table.specs.Noted.{new_entry, new_spare, spare_entry, blank_entry, IsNewOf}
use Rattle.job_table.specs.TableRows.{job_entry, place_entry, document_entry, document_spare, HoldsDocument, HoldDocuments, HasNew, IsMoved}
use Rattle.job_table.specs.TableFields.{contents_of, IsOrdered}
use Rattle.job_table.specs.declared.new_places.NewDocument.{NewDocument}
use Rattle.job_table.specs.declared.store.Store.TheInside.{Inside}
use Rattle.job_table.proofs.Changes.{apart, some_same, same_number}
use Rattle.job_table.proofs.Numbered.{numbers_of, own_place}
use Rattle.job_table.proofs.Rows as rows
use Rattle.job_table.proofs.Tables.{get_job, find_job}

beside_rest : {K Y : Type 0} (P : K → Y → Type 0) (k : K) (ks : List K) (y : Y) (ys : List Y) → AreBeside P (k ∷ ks) (y ∷ ys) → AreBeside P ks ys
beside_rest P k ks y ys are = record { count = omega (arith, are.count); each = λ i l z lt. are.each (suc i) l z (omega arith) }

beside_first : {K Y : Type 0} (P : K → Y → Type 0) (k : K) (ks : List K) (y : Y) (ys : List Y) → AreBeside P (k ∷ ks) (y ∷ ys) → P k y
beside_first P k ks y ys are = are.each 0 k y (omega arith)

-- ## Nothing is noted yet

pub noted_blank : (rs : List JobRow) (ds : List NewDocument) → AreBeside IsNewOf rs ds → map new_entry ds ≡ map blank_entry rs
noted_blank [] [] are = refl
noted_blank [] (d ∷ ds) are = absurd (omega (arith, are.count))
noted_blank (r ∷ rs) [] are = absurd (omega (arith, are.count))
noted_blank (r ∷ rs) (d ∷ ds) are =
    let own = beside_first IsNewOf r rs d ds are in
    λ i. (own.job i, own.none i) ∷ noted_blank rs ds (beside_rest IsNewOf r rs d ds are) i

room_here : (b : Bool) (spare : ℕ) (rest : Option ℕ) (x r : Job) (found : Option Job) → document_len x ≤ spare * longest_send → cond b (Some x) found ≡ Some r → (found ≡ Some r → document_len r ≤ unwrap_or rest 0 * longest_send) → document_len r ≤ unwrap_or (cond b (Some spare) rest) 0 * longest_send
room_here true spare rest x r found own is later = subst (λ (y : Job). document_len y ≤ spare * longest_send) (some_same x r is) own
room_here false spare rest x r found own is later = later is

pub room_blank : (rs : List JobRow) (ds : List NewDocument) → AreBeside IsNewOf rs ds → (j : ℕ) (r : Job) → finite.find nat_cmp j (map job_entry rs) ≡ Some r → document_len r ≤ unwrap_or (finite.find nat_cmp j (map spare_entry ds)) 0 * longest_send
room_blank [] ds are j r there = absurd (cc)
room_blank (x ∷ rs) [] are j r there = absurd (omega (arith, are.count))
room_blank (x ∷ rs) (d ∷ ds) are j r there =
    let own = beside_first IsNewOf x rs d ds are in
    subst (λ n. document_len r ≤ unwrap_or (cond (is_eq (nat_cmp j n)) (Some (new_spare d)) (finite.find nat_cmp j (map spare_entry ds))) 0 * longest_send) (sym own.job)
    (room_here (is_eq (nat_cmp j x.job.id)) (new_spare d) (finite.find nat_cmp j (map spare_entry ds)) (job_of x) r (finite.find nat_cmp j (map job_entry rs)) own.room there
    (λ later. room_blank rs ds (beside_rest IsNewOf x rs d ds are) j r later))

-- ## Rows whose documents have moved

module _ (noted : Noted) where
  pub moved_entries : (xs ys : List JobRow) → AreBeside (IsMoved noted) xs ys → map job_entry ys ≡ map job_entry xs
  moved_entries [] [] are = refl
  moved_entries [] (y ∷ ys) are = absurd (omega (arith, are.count))
  moved_entries (x ∷ xs) [] are = absurd (omega (arith, are.count))
  moved_entries (x ∷ xs) (y ∷ ys) are =
      let own = beside_first (IsMoved noted) x xs y ys are in
      λ i. ((own.row i).id, own.row i) ∷ moved_entries xs ys (beside_rest (IsMoved noted) x xs y ys are) i

  -- New places of the document's length.
  abbrev pub HasWhole : JobRow → Type 0
  HasWhole r = has_ended r.job.phase ≡ false → size_of (places_of noted.places r.job.id) ≡ r.job.size

  same_phase : (x y : JobRow) → IsMoved noted x y → has_ended y.job.phase ≡ has_ended x.job.phase
  same_phase x y moved = ap (λ (r : Job). has_ended r.phase) moved.row

  moved_holds : (x y : JobRow) → IsMoved noted x y → HasWhole x → HoldsDocument x → HoldsDocument y
  moved_holds x y moved whole holds = either (has_ended x.job.phase) refl
    where
      either : (b : Bool) → has_ended x.job.phase ≡ b → HoldsDocument y
      either true e = subst HoldsDocument (sym (moved.over e)) holds
      either false e = record {
        freed = λ over. absurd (apart (has_ended x.job.phase) (sym (same_phase x y moved) ∙ over) e);
        sized = ap size_of (moved.lives e) ∙ whole e ∙ sym (ap (λ b. cond b 0 x.job.size) e) ∙ sym (ap document_len moved.row);
      }

  pub moved_hold : (xs ys : List JobRow) → AreBeside (IsMoved noted) xs ys → ((i : ℕ) (d : JobRow) → i < length xs → HasWhole (get_or xs i d)) → HoldDocuments xs → HoldDocuments ys
  moved_hold xs [] are whole holds = tt
  moved_hold [] (y ∷ ys) are whole holds = absurd (omega (arith, are.count))
  moved_hold (x ∷ xs) (y ∷ ys) are whole holds = (
    moved_holds x y (beside_first (IsMoved noted) x xs y ys are) (whole 0 x (omega arith)) holds.0,
    moved_hold xs ys (beside_rest (IsMoved noted) x xs y ys are) (λ i d lt. whole (suc i) d (omega arith)) holds.1,
  )

  -- The value that is found for a job that has not ended.
  found_here : {X : Type 0} (none value wanted : X) (b : Bool) (y : JobRow) (r : Job) (found : Option Job) (rest : Option X) → (b ≡ true → has_ended y.job.phase ≡ false → value ≡ wanted) → cond b (Some (job_of y)) found ≡ Some r → has_ended r.phase ≡ false → (found ≡ Some r → unwrap_or rest none ≡ wanted) → unwrap_or (cond b (Some value) rest) none ≡ wanted
  found_here none value wanted true y r found rest own is lives later = own refl (ap (λ (x : Job). has_ended x.phase) (some_same (job_of y) r is) ∙ lives)
  found_here none value wanted false y r found rest own is lives later = later is

  module _ (x y : JobRow) (moved : IsMoved noted x y) (j : ℕ) (here : is_eq (nat_cmp j y.job.id) ≡ true) where
    own_number : x.job.id ≡ j
    own_number = sym (ap (λ (q : Job). q.id) moved.row) ∙ sym (same_number y.job.id j here)

  pub moved_places : (xs ys : List JobRow) → AreBeside (IsMoved noted) xs ys → (j : ℕ) (r : Job) → finite.find nat_cmp j (map job_entry ys) ≡ Some r → has_ended r.phase ≡ false → places_of (map place_entry ys) j ≡ places_of noted.places j
  moved_places xs [] are j r there lives = absurd (cc)
  moved_places [] (y ∷ ys) are j r there lives = absurd (omega (arith, are.count))
  moved_places (x ∷ xs) (y ∷ ys) are j r there lives =
      let own = beside_first (IsMoved noted) x xs y ys are in
      found_here [] y.document.items (places_of noted.places j) (is_eq (nat_cmp j y.job.id)) y r (finite.find nat_cmp j (map job_entry ys)) (finite.find nat_cmp j (map place_entry ys))
      (λ here live. own.lives (sym (same_phase x y own) ∙ live) ∙ ap (places_of noted.places) (own_number x y own j here))
      there lives
      (λ later. moved_places xs ys (beside_rest (IsMoved noted) x xs y ys are) j r later lives)

  pub moved_rooms : (xs ys : List JobRow) → AreBeside (IsMoved noted) xs ys → (j : ℕ) (r : Job) → finite.find nat_cmp j (map job_entry ys) ≡ Some r → has_ended r.phase ≡ false → unwrap_or (finite.find nat_cmp j (map document_entry ys)) 0 ≡ move_room noted j
  moved_rooms xs [] are j r there lives = absurd (cc)
  moved_rooms [] (y ∷ ys) are j r there lives = absurd (omega (arith, are.count))
  moved_rooms (x ∷ xs) (y ∷ ys) are j r there lives =
      let own = beside_first (IsMoved noted) x xs y ys are in
      found_here 0 (document_spare y) (move_room noted j) (is_eq (nat_cmp j y.job.id)) y r (finite.find nat_cmp j (map job_entry ys)) (finite.find nat_cmp j (map document_entry ys))
      (λ here live. own.spare (sym (same_phase x y own) ∙ live) ∙ ap (move_room noted) (own_number x y own j here))
      there lives
      (λ later. moved_rooms xs ys (beside_rest (IsMoved noted) x xs y ys are) j r later lives)

-- The same places for this job, and the same room.
pub moved_as : (from to : Noted) (x y : JobRow) → finite.find nat_cmp x.job.id from.places ≡ finite.find nat_cmp x.job.id to.places → move_room from x.job.id ≡ move_room to x.job.id → IsMoved from x y → IsMoved to x y
moved_as from to x y same room moved = record {
  row = moved.row;
  lives = λ e. moved.lives e ∙ ap (λ o. unwrap_or o []) same;
  spare = λ e. moved.spare e ∙ room;
  over = moved.over;
}

less_and_equal : (o : Ordering) → o ≡ Less → o ≡ Equal → ⊥
less_and_equal o less equal = cc

-- No two rows have the same number.
pub ids_apart : (ys : List JobRow) → IsTrue (finite.is_sorted nat_cmp (map job_entry ys)) → (i j : ℕ) (d e : JobRow) → i < j → j < length ys → ¬ ((get_or ys j d).job.id ≡ (get_or ys i e).job.id)
ids_apart ys sorted i j d e lt within same =
    let less = rows.rise nat_cmp nat_cmp_total (λ (r : JobRow). r.job.id) job_of ys (rows.t_from _ sorted) i j d lt within in
    let own : (get_or ys i d).job.id ≡ (get_or ys j d).job.id = ap (λ (r : JobRow). r.job.id) (get_or_default ys i d e (omega arith)) ∙ sym same in
    less_and_equal (nat_cmp (get_or ys j d).job.id (get_or ys j d).job.id) (ap (λ n. nat_cmp n (get_or ys j d).job.id) (sym own) ∙ less) (tied_itself nat_cmp_total (get_or ys j d).job.id)

blank_here : (b : Bool) (x r : Job) (found : Option Job) (rest : Option (List Extent)) → cond b (Some x) found ≡ Some r → (found ≡ Some r → rest ≡ Some []) → cond b (Some []) rest ≡ Some []
blank_here true x r found rest is later = refl
blank_here false x r found rest is later = later is

-- No extent is noted for a job of the rows.
pub blank_found : (rs : List JobRow) (j : ℕ) (r : Job) → finite.find nat_cmp j (map job_entry rs) ≡ Some r → finite.find nat_cmp j (map blank_entry rs) ≡ Some []
blank_found [] j r there = absurd (cc)
blank_found (x ∷ rs) j r there =
    blank_here (is_eq (nat_cmp j x.job.id)) (job_of x) r (finite.find nat_cmp j (map job_entry rs)) (finite.find nat_cmp j (map blank_entry rs)) there
    (λ later. blank_found rs j r later)

module _ (a : Inside) (ordered : IsOrdered a) (noted : Noted) (has : HasMoves (contents_of a).state noted) where
  job_here : (i : ℕ) (d : JobRow) → i < length a.jobs.items → job_at (contents_of a).state (get_or a.jobs.items i d).job.id ≡ Some (job_of (get_or a.jobs.items i d))
  job_here i d lt = get_job a.jobs.items ordered.jobs (get_or a.jobs.items i d).job.id i d (own_place a.jobs.items i d lt)

  pub each_new : (i : ℕ) (d : JobRow) → i < length a.jobs.items → HasNew noted.places (get_or a.jobs.items i d)
  each_new i d lt lives = (has (get_or a.jobs.items i d).job.id (job_of (get_or a.jobs.items i d)) (job_here i d lt) lives).0

  each_whole : (i : ℕ) (d : JobRow) → i < length a.jobs.items → HasWhole noted (get_or a.jobs.items i d)
  each_whole i d lt lives = (has (get_or a.jobs.items i d).job.id (job_of (get_or a.jobs.items i d)) (job_here i d lt) lives).1

  module _ (new : List JobRow) (count : length new ≡ length a.jobs.items) (each : (i : ℕ) (d : JobRow) → i < length new → IsMoved noted (get_or a.jobs.items i d) (get_or new i d)) (vs : Listed) (numbers : vs.numbers ≡ a.jobs.numbers) (items : vs.items ≡ new) where
    beside : AreBeside (IsMoved noted) a.jobs.items new
    beside = record {
      count = count;
      each = λ i k y lt. subst (λ x. IsMoved noted x (get_or new i y)) (get_or_default a.jobs.items i y k (omega (arith, lt, count))) (each i y lt);
    }

    entries : map job_entry vs.items ≡ map job_entry a.jobs.items
    entries = ap (map job_entry) items ∙ moved_entries noted a.jobs.items new beside

    numbers_kept : numbers_of a.jobs.items ≡ numbers_of vs.items
    numbers_kept = sym (firsts a.jobs.items) ∙ ap (map (λ (e : ℕ × Job). e.0)) (sym entries) ∙ firsts vs.items
      where
        firsts : (rs : List JobRow) → map (λ (e : ℕ × Job). e.0) (map job_entry rs) ≡ numbers_of rs
        firsts [] = refl
        firsts (r ∷ rs) = ap (λ ns. r.job.id ∷ ns) (firsts rs)

    sorted_moved : IsTrue (finite.is_sorted nat_cmp (map job_entry vs.items))
    sorted_moved = subst (λ es. IsTrue (finite.is_sorted nat_cmp es)) (sym entries) ordered.jobs

    pub moved_state : (contents_of (record a { jobs = vs })).state ≡ (contents_of a).state
    moved_state = ap (λ es. record (contents_of a).state { jobs = finite.from_sorted es }) entries

    pub moved_ordered : IsOrdered (record a { jobs = vs })
    moved_ordered = record {
      queues = ordered.queues;
      jobs = sorted_moved;
      own = numbers ∙ ordered.own ∙ numbers_kept;
      highest = ordered.highest;
      documents = subst HoldDocuments (sym items) (moved_hold noted a.jobs.items new beside each_whole ordered.documents);
      legal = subst IsLegal (sym moved_state) ordered.legal;
    }

    pub moved_all : (j : ℕ) (r : Job) → job_at (contents_of (record a { jobs = vs })).state j ≡ Some r → has_ended r.phase ≡ false → places_at (contents_of (record a { jobs = vs })) j ≡ places_of noted.places j
    moved_all j r there lives =
        ap (λ ys. places_of (map place_entry ys) j) items
        ∙ moved_places noted a.jobs.items new beside j r (subst (λ ys. finite.find nat_cmp j (map job_entry ys) ≡ Some r) items (find_job vs.items sorted_moved j ∙ there)) lives

    pub rooms_all : (j : ℕ) (r : Job) → job_at (contents_of (record a { jobs = vs })).state j ≡ Some r → has_ended r.phase ≡ false → document_room (contents_of (record a { jobs = vs })).room j ≡ move_room noted j
    rooms_all j r there lives =
        ap (λ ys. unwrap_or (finite.find nat_cmp j (map document_entry ys)) 0) items
        ∙ moved_rooms noted a.jobs.items new beside j r (subst (λ ys. finite.find nat_cmp j (map job_entry ys) ≡ Some r) items (find_job vs.items sorted_moved j ∙ there)) lives

-- The entries of the rows are those of the table.
pub entry_found : (s : State) (rs : List JobRow) → map job_entry rs ≡ finite.entries s.jobs → (j : ℕ) (r : Job) → job_at s j ≡ Some r → finite.find nat_cmp j (map job_entry rs) ≡ Some r
entry_found s rs are j r there = ap (finite.find nat_cmp j) are ∙ sym (finite.get-entries s.jobs j) ∙ there
