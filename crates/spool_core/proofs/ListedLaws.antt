-- The documents in the rows of a listing, and their places.
use Rattle.spool_types.specs.declared.version.Version.TheVariants.{Two}
use Rattle.std.proofs.Common.{◌≡◌, ◌≢◌, ℕ, ◌+◌, ◌≤◌, ◌==◌, if◌then◌else◌, Bool, true, false, cond, List, [], ◌∷◌, ◌++◌, length, map, Option, None, Some, refl, sym, subst, ap, ◌∙◌, arith, length-append}
use Rattle.std.proofs.lemmas.List.{length-take}
use Rattle.std.specs.Ordering.{nat_cmp, is_eq}
use Rattle.std.specs.FinMap as finite
use Rattle.std.specs.List.{AllByRecursion}
use Rattle.extents.specs.declared.extent.Extent.{Extent}
use Rattle.extents.specs.Extents.{size_of}
use Rattle.spool_types.specs.Phases.{has_ended}
use Rattle.spool_types.specs.Sent.{piece_of, placed_to, sent_in, listed_pieces}
use Rattle.spool_types.specs.State.{State, Job, job_at}
use Rattle.spool_types.specs.declared.rows.QueueRow.{QueueRow}
use Rattle.spool_types.specs.declared.listing.Row.{Row}
use Rattle.spool_types.specs.declared.listing.Row.TheVariants.{Head, Queue, Job as JobRow, Piece}
use Rattle.gate_journal.specs.Entries.{records}
use Rattle.spool_areas.specs.PayloadExtents.{bytes_of}
use Rattle.event_codec.specs.RowSpelling.{row_spelling}
use Rattle.job_table.specs.Contents.{Contents, AreSized, places_at}
use Rattle.job_table.specs.Over.{is_over, is_over_by}
use Rattle.job_table.specs.DocumentLengths.{AreDocuments, document_len}
use Rattle.job_table.specs.Legal.{IsLegal}
use Rattle.job_table.specs.Listing.{head_of, job_rows, listing, pieces}
use Rattle.documents.specs.Documents.{joined, LieIn}
use Rattle.documents.specs.Placed.{placed_pieces}
use Rattle.documents.proofs.Joined.{bytes_are, joined_len}
use Rattle.documents.proofs.Moved.{in_listing, spells_pieces}
use Rattle.documents.proofs.Placed.{sized}
use Rattle.spool_core.specs.ListingFilling.{AreAlike, lying, rows_of}
use Rattle.spool_core.proofs.AllLaws.{head_rows, placed-append, none_placed}
use Rattle.spool_core.proofs.Numbers.{AreApart, AreFound, jobs_found, jobs_apart}
use Rattle.spool_core.proofs.PartLaws.{other_test}
use Rattle.spool_core.proofs.ReadOn.{some_same}

-- ## Rows that differ in the bytes of their pieces

pub alike_placed : (gate : ℕ) (rows others : List Row) (j : ℕ) → AreAlike rows others → placed_pieces Two gate others j ≡ placed_pieces Two gate rows j
alike_placed gate [] [] j are = refl
alike_placed gate [] (b ∷ others) j are = absurd are
alike_placed gate (a ∷ rows) [] j are = absurd are
alike_placed gate (a ∷ rows) (b ∷ others) j are =
    (λ i. are.0.placed (gate + 5) j i ++ placed_pieces Two (gate + 5 + are.0.long i) others j)
    ∙ ap (λ (l : List Extent). placed_to (gate + 5) j (piece_of a) ++ l) (alike_placed (gate + 5 + length (row_spelling Two a)) rows others j are.1)

-- ## A job of the listing

all_there : {X : Type 0} (P : X → Type 0) (front : List X) (x : X) (back : List X) → AllByRecursion P (front ++ x ∷ back) → P x
all_there P [] x back all = all.0
all_there P (y ∷ front) x back all = all_there P front x back all.1

pub record Split (rs : List Job) (r : Job) : Type 0 where
  pub before : List Job
  pub after : List Job
  pub parts : rs ≡ before ++ r ∷ after

split_by : (b : Bool) (q r : Job) (qs : List Job) (found : Option Job) → cond b (Some q) found ≡ Some r → (found ≡ Some r → Split qs r) → Split (q ∷ qs) r
split_by true q r qs found is later = record { before = []; after = qs; parts = ap (λ (x : Job). x ∷ qs) (some_same q r is) }
split_by false q r qs found is later = let rest = later is in record { before = q ∷ rest.before; after = rest.after; parts = ap (λ (l : List Job). q ∷ l) rest.parts }

found_split : (es : List (ℕ × Job)) (j : ℕ) (r : Job) → finite.find nat_cmp j es ≡ Some r → Split (map (λ (e : ℕ × Job). e.1) es) r
found_split [] j r there = absurd (cc)
found_split (e ∷ es) j r there = split_by (is_eq (nat_cmp j e.0)) e.1 r (map (λ (e : ℕ × Job). e.1) es) (finite.find nat_cmp j es) there (λ later. found_split es j r later)

split_of : (s : State) (j : ℕ) (r : Job) → job_at s j ≡ Some r → Split (finite.values s.jobs) r
split_of s j r there = found_split (finite.entries s.jobs) j r (sym (finite.get-entries s.jobs j) ∙ there)

apart_before : (before : List Job) (r : Job) (after : List Job) → AreApart (before ++ r ∷ after) → AllByRecursion (λ (q : Job). q.id ≢ r.id) before
apart_before [] r after apart = tt
apart_before (q ∷ before) r after apart = (λ same. all_there (λ (x : Job). x.id ≢ q.id) before r after apart.0 (sym same), apart_before before r after apart.1)

apart_after : (before : List Job) (r : Job) (after : List Job) → AreApart (before ++ r ∷ after) → AllByRecursion (λ (q : Job). q.id ≢ r.id) after
apart_after [] r after apart = apart.0
apart_after (q ∷ before) r after apart = apart_after before r after apart.1

queues_sent : (qs : List QueueRow) (rest : List Row) (j : ℕ) → sent_in piece_of (map (λ (q : QueueRow). Queue q) qs ++ rest) j ≡ sent_in piece_of rest j
queues_sent [] rest j = refl
queues_sent (q ∷ qs) rest j = queues_sent qs rest j

-- The pieces of a job are its document.
pub listed_piece : (s : State) → IsLegal s → (documents : ℕ → List ℕ) (j : ℕ) (r : Job) → job_at s j ≡ Some r → listed_pieces (listing s documents) j ≡ documents j
listed_piece s legal documents j r there =
    let split = split_of s j r there in
    let apart = subst AreApart split.parts (jobs_apart s legal) in
    let own : r.id ≡ j = (legal.jobs j r there).id in
    queues_sent (finite.values s.queues) (rows_of documents (finite.values s.jobs)) j
    ∙ (λ i. sent_in piece_of (rows_of documents (split.parts i)) (sym own i))
    ∙ in_listing documents split.before split.after r (apart_before split.before r split.after apart) (apart_after split.before r split.after apart)
    ∙ ap documents own

-- ## A number without a job

pieces_placed : (gate k j : ℕ) (ps : List (List ℕ)) → (k == j) ≡ false → placed_pieces Two gate (map (λ bytes. Piece k bytes) ps) j ≡ []
pieces_placed gate k j [] other = refl
pieces_placed gate k j (p ∷ ps) other =
    ap (λ t. (if t then record { place = gate + 5 + 9; len = length p } ∷ [] else []) ++ placed_pieces Two (gate + 5 + length (row_spelling Two (Piece k p))) (map (λ bytes. Piece k bytes) ps) j) other
    ∙ pieces_placed (gate + 5 + length (row_spelling Two (Piece k p))) k j ps other

others_placed : (gate : ℕ) (documents : ℕ → List ℕ) (rs : List Job) (j : ℕ) → AllByRecursion (λ (q : Job). q.id ≢ j) rs → placed_pieces Two gate (rows_of documents rs) j ≡ []
others_placed gate documents [] j apart = refl
others_placed gate documents (q ∷ rs) j apart =
    let own = job_rows q (documents q.id) in
    placed-append gate own (rows_of documents rs) j
    ∙ (λ i. pieces_placed (gate + 5 + length (row_spelling Two (JobRow q))) q.id j (pieces (documents q.id)) (other_test q.id j apart.0) i
    ++ others_placed (gate + length (records (map (row_spelling Two) own))) documents rs j apart.1 i)

none_of_them : (s : State) (j : ℕ) (rs : List Job) → job_at s j ≡ None → AreFound s rs → AllByRecursion (λ (q : Job). q.id ≢ j) rs
none_of_them s j [] none found = tt
none_of_them s j (q ∷ rs) none found = (λ same. let is : job_at s j ≡ Some q = ap (job_at s) (sym same) ∙ found.0 in absurd (cc (is, none)), none_of_them s j rs none found.1)

-- It has no places.
pub listing_placed : (s : State) → IsLegal s → (gate : ℕ) (documents : ℕ → List ℕ) (j : ℕ) → job_at s j ≡ None → placed_pieces Two gate (listing s documents) j ≡ []
listing_placed s legal gate documents j none =
    let jobs = rows_of documents (finite.values s.jobs) in
    placed-append gate (head_rows s) jobs j
    ∙ (λ i. none_placed (gate + 5 + length (row_spelling Two (Head (head_of s)))) (finite.values s.queues) j i
    ++ others_placed (gate + length (records (map (row_spelling Two) (head_rows s)))) documents (finite.values s.jobs) j (none_of_them s j (finite.values s.jobs) none (jobs_found s legal)) i)

empty : (xs : List ℕ) → length xs ≡ 0 → xs ≡ []
empty [] is = refl
empty (x ∷ xs) is = absurd (omega (arith, is))

-- It has no pieces.
pub listed_none : (s : State) → IsLegal s → (documents : ℕ → List ℕ) (j : ℕ) → job_at s j ≡ None → listed_pieces (listing s documents) j ≡ []
listed_none s legal documents j none =
    empty (listed_pieces (listing s documents) j) (omega (arith, sized (row_spelling Two) piece_of (spells_pieces Two) 0 (listing s documents) j, ap size_of (listing_placed s legal 0 documents j none)))

-- ## The documents that these bytes have

most : (r : List ℕ) (xs : List Extent) → length (joined r xs) ≤ size_of xs
most r [] = omega arith
most r (x ∷ xs) = omega (arith, length-append (bytes_of r x) (joined r xs), ap length (bytes_are r x), length-take {A = ℕ}, most r xs)

-- They are as long as the extents.
pub lying_long : (low high : ℕ) (r : List ℕ) (xs : List Extent) (len : ℕ) (ended : Bool) → (ended ≡ true → len ≡ 0) → (ended ≡ false → LieIn low high xs) → size_of xs ≡ len → high ≤ length r → length (joined r xs) ≡ len
lying_long low high r xs len true none lie sized within = omega (arith, most r xs, sized, none refl)
lying_long low high r xs len false none lie sized within = joined_len low high xs r (lie refl) within ∙ sized

-- They have the documents' lengths.
pub lying_fit : (low high : ℕ) (c : Contents) → ((j : ℕ) → is_over c.state j ≡ false → LieIn low high (places_at c j)) → AreSized c → (r : List ℕ) → high ≤ length r → AreDocuments c.state (lying c r)
lying_fit low high c lie are r within j q there =
    lying_long low high r (places_at c j) (document_len q) (has_ended q.phase) (λ over. ap (λ b. cond b 0 q.size) over) (λ lives. lie j (ap (is_over_by c.state.highest j) there ∙ lives)) (are j q there) within
