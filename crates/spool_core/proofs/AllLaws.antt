-- The rows of all documents, job by job.
use Rattle.spool_types.specs.declared.version.Version.TheVariants.{Two}
use Rattle.std.proofs.Common.{◌≡◌, ◌≢◌, ℕ, ◌+◌, ◌*◌, ◌<◌, ◌≤◌, List, [], ◌∷◌, ◌++◌, length, take, drop, map, get_or, Some, IsSome, Ok, replicate, unwrap_or, refl, sym, subst, ap, ◌∙◌, arith, append_assoc, length-append}
use Rattle.std.proofs.lemmas.List.{append-nil, drop_more, take_more, take_all, take-append-drop, length-replicate}
use Rattle.std.proofs.lemmas.List.Concat.{flat_map-append}
use Rattle.std.specs.FinMap as finite
use Rattle.std.specs.Ordering.{nat_cmp}
use Rattle.std.specs.List.{flat_map, AllByRecursion}
use Rattle.extents.specs.declared.extent.Extent.{Extent}
use Rattle.spool_types.specs.Limits.{longest_send}
use Rattle.spool_types.specs.Sent.{piece_of, placed_to}
use Rattle.spool_types.specs.State.{State, Job, job_at}
use Rattle.spool_types.specs.declared.rows.QueueRow.{QueueRow}
use Rattle.spool_types.specs.declared.listing.Row.{Row}
use Rattle.spool_types.specs.declared.listing.Row.TheVariants.{Head, Queue}
use Rattle.spool_disk.specs.Disk.{DiskView, IsLawful}
use Rattle.gate_journal.specs.Entries.{records}
use Rattle.event_codec.specs.RowSpelling.{row_spelling}
use Rattle.job_table.specs.Contents.{Contents, Noted, AreSized, HasNoMoves, move_room, places_at, places_of}
use Rattle.job_table.specs.DocumentLengths.{AreDocuments, document_len}
use Rattle.job_table.specs.Listing.{head_of, job_rows, listing}
use Rattle.documents.specs.Documents.{joined}
use Rattle.documents.specs.Placed.{placed_pieces}
use Rattle.spool_core.specs.Checkpointing.{MayBeListed, blank, blank_rows}
use Rattle.listing_rows.specs.RowFilling.{Filling, next_place, records_len, MayFill, IsFillingOn, AddsRows}
use Rattle.spool_core.specs.ListingFilling.{rows_of, lying, AreAlike, HasMoveRoom, TellsBut, IsDue, IsDocumentAdded, IsDocumentNoted, AreJobsAdded, AreJobsNoted, IsListingAdded, AreDocumentsNoted}
use Rattle.spool_core.specs.SpoolFields.{DocumentsLieIn}
use Rattle.spool_core.specs.OpenSpools.{len_found}
use Rattle.spool_core.proofs.AddLaws.{records_more, may_more, may_first, may_as, tells_on, then_adds, none_adds}
use Rattle.spool_core.proofs.Numbers.{AreApart, AreFound, apart_behind, all_behind, all_by}
use Rattle.spool_core.proofs.PartLaws.{alike_itself, alike_records, alike_then}

-- ## The rows of a listing

-- The rows before those of the jobs.
abbrev pub head_rows : State → List Row
head_rows s = Head (head_of s) ∷ map (λ (q : QueueRow). Queue q) (finite.values s.queues)

blank_same : (s : State) (rs : List Job) → AreFound s rs → rows_of (blank s) rs ≡ flat_map blank_rows rs
blank_same s [] are = refl
blank_same s (r ∷ rs) are = λ i. job_rows r (replicate (len_found (are.0 i)) 0) ++ blank_same s rs are.1 i

-- The listing with zeros.
pub blank_listing : (s : State) → AreFound s (finite.values s.jobs) → listing s (blank s) ≡ head_rows s ++ flat_map blank_rows (finite.values s.jobs)
blank_listing s are = ap (λ (l : List Row). head_rows s ++ l) (blank_same s (finite.values s.jobs) are)

-- Documents of zeros have the documents' lengths.
pub blank_fits : (s : State) → AreDocuments s (blank s)
blank_fits s j r there = length-replicate (len_found (job_at s j)) 0 ∙ ap len_found there

pub placed-append : (gate : ℕ) (rows more : List Row) (j : ℕ) → placed_pieces Two gate (rows ++ more) j ≡ placed_pieces Two gate rows j ++ placed_pieces Two (gate + length (records (map (row_spelling Two) rows))) more j
placed-append gate [] more j =
    let at : gate ≡ gate + 0 = omega arith in
    ap (λ (n : ℕ). placed_pieces Two n more j) at
placed-append gate (row ∷ rows) more j =
    let next = gate + 5 + length (row_spelling Two row) in
    let at : next + length (records (map (row_spelling Two) rows)) ≡ gate + length (records (map (row_spelling Two) (row ∷ rows))) = omega (arith, length-append (row_spelling Two row) (records (map (row_spelling Two) rows))) in
    ap (λ (l : List Extent). placed_to (gate + 5) j (piece_of row) ++ l) (placed-append next rows more j ∙ ap (λ (n : ℕ). placed_pieces Two next rows j ++ placed_pieces Two n more j) at)
    ∙ sym (append_assoc (placed_to (gate + 5) j (piece_of row)) (placed_pieces Two next rows j) (placed_pieces Two (gate + length (records (map (row_spelling Two) (row ∷ rows)))) more j))

pub none_placed : (gate : ℕ) (qs : List QueueRow) (j : ℕ) → placed_pieces Two gate (map (λ (q : QueueRow). Queue q) qs) j ≡ []
none_placed gate [] j = refl
none_placed gate (q ∷ qs) j = none_placed (gate + 5 + length (row_spelling Two (Queue q))) qs j

-- ## The first jobs are added

-- The rows of the first jobs are added, their places are noted, and there is room to note those of the others.
pub record AreSomeAdded {D : Type 0} (v : DiskView D) (c : Contents) (i : ℕ) (old : Filling D) (before : Noted) (now : Filling D) (noted : Noted) : Type 0 where
  pub rows : List Row
  pub alike : AreAlike (flat_map blank_rows (take i (finite.values c.state.jobs))) rows
  pub told : (r : List ℕ) → TellsBut v old.areas r → rows ≡ rows_of (lying c r) (take i (finite.values c.state.jobs))
  pub adds : AddsRows v rows old now
  pub places : (j : ℕ) → places_of noted.places j ≡ places_of before.places j ++ placed_pieces Two (next_place old) (flat_map blank_rows (take i (finite.values c.state.jobs))) j
  pub there : (j : ℕ) → IsSome (finite.find nat_cmp j before.places) → IsSome (finite.find nat_cmp j noted.places)
  pub room : AllByRecursion (λ (q : Job). document_len q ≤ move_room noted q.id * longest_send) (drop i (finite.values c.state.jobs))

-- The state before any job.
pub some_begun : {D : Type 0} (v : DiskView D) → IsLawful v → (c : Contents) (old : Filling D) → AreFound c.state (finite.values c.state.jobs) → HasMoveRoom c.state c.moves → AreSomeAdded v c 0 old c.moves old c.moves
some_begun v lawful c old found room = record {
  rows = [];
  alike = tt;
  told = λ r told. refl;
  adds = none_adds v lawful old;
  places = λ j. sym (append-nil (places_of c.moves.places j));
  there = λ j there. there;
  room = all_by (λ (q : Job). job_at c.state q.id ≡ Some q) (λ (q : Job). job_at c.state q.id ≡ Some q) (λ (q : Job). document_len q ≤ move_room c.moves q.id * longest_send) (finite.values c.state.jobs) (λ q there same. room q.id q there) found found;
}

module _ {D : Type 0} (v : DiskView D) (lawful : IsLawful v) (c : Contents) (i : ℕ) (old : Filling D) (before : Noted) (now : Filling D) (noted : Noted) (on : IsFillingOn {T = Unit {0}} v old now (Ok tt))
    (p : AreSomeAdded v c i old before now noted) (q : Job) (inside : i < length (finite.values c.state.jobs)) (is : get_or (finite.values c.state.jobs) i q ≡ q) (found : AreFound c.state (finite.values c.state.jobs)) where
  abbrev all_jobs : List Job
  all_jobs = finite.values c.state.jobs

  abbrev done_rows : List Row
  done_rows = flat_map blank_rows (take i all_jobs)

  split : drop i all_jobs ≡ q ∷ drop (i + 1) all_jobs
  split = drop_more all_jobs i q inside ∙ ap (λ (r : Job). r ∷ drop (i + 1) all_jobs) is

  taken : take (i + 1) all_jobs ≡ take i all_jobs ++ q ∷ []
  taken = take_more all_jobs i q inside ∙ ap (λ (r : Job). take i all_jobs ++ r ∷ []) is

  here : job_at c.state q.id ≡ Some q
  here = (subst (AllByRecursion (λ (r : Job). job_at c.state r.id ≡ Some r)) split (all_behind (λ (r : Job). job_at c.state r.id ≡ Some r) i all_jobs found)).0

  done_more : flat_map blank_rows (take (i + 1) all_jobs) ≡ done_rows ++ blank_rows q
  done_more =
      ap (flat_map blank_rows) taken ∙ flat_map-append blank_rows (take i all_jobs) (q ∷ []) ∙ ap (λ (l : List Row). done_rows ++ l) (append-nil (blank_rows q))

  all_is : flat_map blank_rows all_jobs ≡ done_rows ++ (blank_rows q ++ flat_map blank_rows (drop (i + 1) all_jobs))
  all_is =
      ap (flat_map blank_rows) (sym (take-append-drop i all_jobs)) ∙ flat_map-append blank_rows (take i all_jobs) (drop i all_jobs)
      ∙ ap (λ (l : List Job). done_rows ++ flat_map blank_rows l) split

  may_here : MayFill v (flat_map blank_rows all_jobs) old → MayFill v (blank_rows q) now
  may_here may =
      let rest = blank_rows q ++ flat_map blank_rows (drop (i + 1) all_jobs) in
      let long : records_len (p.rows ++ rest) ≡ records_len (flat_map blank_rows all_jobs) =
      records_more p.rows rest ∙ ap (λ (n : ℕ). n + records_len rest) (alike_records done_rows p.rows p.alike) ∙ sym (records_more done_rows rest) ∙ ap records_len (sym all_is) in
      may_first v lawful (blank_rows q) (flat_map blank_rows (drop (i + 1) all_jobs)) now
      (may_more v lawful old now on p.rows p.adds rest (may_as v lawful (flat_map blank_rows all_jobs) (p.rows ++ rest) old long may))

  pub next_there : (d : Contents) → d.state ≡ c.state → job_at d.state q.id ≡ Some q
  next_there d same = ap (λ (s : State). job_at s q.id) same ∙ here

  -- The rows of the next job are due.
  pub next_due : (d : Contents) → d.state ≡ c.state → d.moves ≡ noted → MayFill v (flat_map blank_rows all_jobs) old → AllByRecursion MayBeListed all_jobs → DocumentsLieIn (now.areas.base + 16) now.areas.end d → AreSized d → IsDue v d q.id now
  next_due d same moves may listed lie sized = record {
    row = q;
    there = next_there d same;
    id = refl;
    listed = (subst (AllByRecursion MayBeListed) split (all_behind MayBeListed i all_jobs listed)).0;
    may = may_here may;
    lie = lie q.id;
    sized = sized q.id q (next_there d same);
    room = subst (λ (n : Noted). document_len q ≤ move_room n q.id * longest_send) (sym moves) (subst (AllByRecursion (λ (r : Job). document_len r ≤ move_room noted r.id * longest_send)) split p.room).0;
  }

  -- The next job was added.
  pub some_next : AreApart all_jobs → (end : Filling D) (after : Noted) → IsDocumentAdded v (places_at c q.id) q now end → IsDocumentNoted q (next_place now) noted after → AreSomeAdded v c (i + 1) old before end after
  some_next apart end after f n =
      let at : next_place now ≡ next_place old + records_len done_rows = omega (arith, p.adds.place, alike_records done_rows p.rows p.alike) in
      record {
        rows = p.rows ++ f.rows;
        alike = subst (λ (l : List Row). AreAlike l (p.rows ++ f.rows)) (sym done_more) (alike_then done_rows p.rows (blank_rows q) f.rows p.alike f.alike);
        told = λ r told.
            (λ k. p.told r told k ++ f.told r (tells_on v lawful old now on r told) k)
            ∙ ap (λ (l : List Row). rows_of (lying c r) (take i all_jobs) ++ l) (sym (append-nil (job_rows q (joined r (places_at c q.id)))))
            ∙ sym (flat_map-append (λ (r' : Job). job_rows r' (joined r (places_at c r'.id))) (take i all_jobs) (q ∷ [])) ∙ ap (rows_of (lying c r)) (sym taken);
        adds = then_adds v lawful old now on p.rows p.adds end f.rows f.adds;
        places = λ j.
            n.noted j
            ∙ (λ k. p.places j k ++ placed_pieces Two (at k) (blank_rows q) j)
            ∙ append_assoc (places_of before.places j) (placed_pieces Two (next_place old) done_rows j) (placed_pieces Two (next_place old + records_len done_rows) (blank_rows q) j)
            ∙ ap (λ (l : List Extent). places_of before.places j ++ l) (sym (placed-append (next_place old) done_rows (blank_rows q) j) ∙ ap (λ (l : List Row). placed_pieces Two (next_place old) l j) (sym done_more));
        there = λ j there. n.there j (p.there j there);
        room = all_by (λ (r : Job). r.id ≢ q.id) (λ (r : Job). document_len r ≤ move_room noted r.id * longest_send) (λ (r : Job). document_len r ≤ move_room after r.id * longest_send) (drop (i + 1) all_jobs)
            (λ r other fits. subst (λ (m : ℕ). document_len r ≤ m * longest_send) (sym (n.room r.id (λ same. other (sym same)))) fits)
            (subst AreApart split (apart_behind i all_jobs apart)).0
            (subst (AllByRecursion (λ (r : Job). document_len r ≤ move_room noted r.id * longest_send)) split p.room).1;
      }

-- ## All jobs are added

module _ {D : Type 0} (v : DiskView D) (c : Contents) (i : ℕ) (old : Filling D) (before : Noted) (now : Filling D) (noted : Noted) (p : AreSomeAdded v c i old before now noted) (all : length (finite.values c.state.jobs) ≤ i) where
  all_taken : take i (finite.values c.state.jobs) ≡ finite.values c.state.jobs
  all_taken = take_all i (finite.values c.state.jobs) all

  pub all_added : AreJobsAdded v c old now
  all_added = record {
    rows = p.rows;
    alike = subst (λ (l : List Job). AreAlike (flat_map blank_rows l) p.rows) all_taken p.alike;
    told = λ r told. p.told r told ∙ ap (rows_of (lying c r)) all_taken;
    adds = p.adds;
  }

  pub all_noted : AreJobsNoted c.state (next_place old) before noted
  all_noted = record {
    noted = λ j. p.places j ∙ ap (λ (l : List Job). places_of before.places j ++ placed_pieces Two (next_place old) (flat_map blank_rows l) j) all_taken;
    there = p.there;
  }

-- ## The listing

-- The head, then the queues, then the jobs.
pub listing_may : {D : Type 0} (v : DiskView D) (s : State) (f : Filling D) → AreFound s (finite.values s.jobs) → MayFill v (listing s (blank s)) f → MayFill v (head_rows s ++ flat_map blank_rows (finite.values s.jobs)) f
listing_may v s f found may = subst (λ (rows : List Row). MayFill v rows f) (blank_listing s found) may

pub listing_noted : (s : State) (gate next : ℕ) (old new : Noted) → AreFound s (finite.values s.jobs) → next ≡ gate + records_len (head_rows s) → HasNoMoves s old → AreJobsNoted s next old new → AreDocumentsNoted s gate new
listing_noted s gate next old new found at none are = record {
  places = λ j r there.
      let jobs = flat_map blank_rows (finite.values s.jobs) in
      are.noted j
      ∙ (λ i. unwrap_or (none j r there i) [] ++ placed_pieces Two (at i) jobs j)
      ∙ ap (λ (l : List Extent). l ++ placed_pieces Two (gate + records_len (head_rows s)) jobs j) (sym (none_placed (gate + 5 + length (row_spelling Two (Head (head_of s)))) (finite.values s.queues) j))
      ∙ sym (placed-append gate (head_rows s) jobs j)
      ∙ ap (λ (l : List Row). placed_pieces Two gate l j) (sym (blank_listing s found));
  there = λ j r there. are.there j (subst IsSome (sym (none j r there)) refl);
}

pub listing_added : {D : Type 0} (v : DiskView D) → IsLawful v → (c : Contents) (f now end : Filling D) → AreFound c.state (finite.values c.state.jobs) → IsFillingOn {T = Unit {0}} v f now (Ok tt) → AddsRows v (head_rows c.state) f now → AreJobsAdded v c now end → IsListingAdded v c f end
listing_added v lawful c f now end found on adds jobs =
    let all = then_adds v lawful f now on (head_rows c.state) adds end jobs.rows jobs.adds in
    record {
      rows = head_rows c.state ++ jobs.rows;
      listing_is = record {
        spellable = all.spellable;
        alike = subst (λ (l : List Row). AreAlike l (head_rows c.state ++ jobs.rows)) (sym (blank_listing c.state found))
            (alike_then (head_rows c.state) (head_rows c.state) (flat_map blank_rows (finite.values c.state.jobs)) jobs.rows (alike_itself (head_rows c.state)) jobs.alike);
        told = λ r told. ap (λ (l : List Row). head_rows c.state ++ l) (jobs.told r (tells_on v lawful f now on r told));
      };
      adds = all;
    }
