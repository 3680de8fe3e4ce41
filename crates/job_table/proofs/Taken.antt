-- Rows that were all accepted are the listing of the loaded table.
use Rattle.std.proofs.Common.{◌≡◌, ◌≢◌, ℕ, ◌+◌, Bool, true, false, cond, ◌==◌, List, [], ◌∷◌, ◌++◌, length, map, Some, None, Option, refl, sym, ap, subst, ◌∙◌, arith, append_assoc, length-append}
use Rattle.std.proofs.lemmas.List.{map-append}
use Rattle.std.proofs.lemmas.Grind.{flat_map-append}
use Rattle.std.specs.Prelude.{T}
use Rattle.std.specs.FinMap.Entries.{find, is_sorted}
use Rattle.std.specs.List.{flat_map, AllByRecursion}
use Rattle.std.specs.declared.cmp.Ordering.{Ordering}
use Rattle.std.specs.declared.cmp.Ordering.TheVariants.{Less}
use Rattle.std.specs.Ordering.{nat_cmp, is_eq, eq_by_cmp}
use Rattle.std.specs.Cmp.{IsTotalOrder, nat_cmp_total}
use Rattle.std.specs.Cmp.Lexicographic.{slice_cmp, nat_list_cmp_total}
use Rattle.std.specs.FinMap as finite
use Rattle.spool_types.specs.State.{State, Job, job_at}
use Rattle.spool_types.specs.declared.rows.QueueRow.{QueueRow}
use Rattle.spool_types.specs.declared.version.Version.{Version}
use Rattle.spool_types.specs.declared.listing.Head.{Head}
use Rattle.spool_types.specs.declared.listing.Row.{Row}
use Rattle.spool_types.specs.declared.listing.Row.TheVariants.{Head as HeadRow, Queue, Job as JobRow, Piece}
use Rattle.job_table.specs.Legal.{IsLegal}
use Rattle.job_table.specs.Listing.{listing, job_rows}
use Rattle.job_table.specs.DocumentLengths.{document_len, AreDocuments}
use Rattle.job_table.specs.Loading.{Part, Progress, IsAbove, begin_loading, begun_part, with_queue, with_job, with_piece, with_last, with_next_piece, loaded, IsWhole, IsPieceOf, IsPlaced, ArePlaced, loaded_all}
use Rattle.job_table.specs.LoadingFields.{IsPartial, IsPartialIn, IsReading}
use Rattle.job_table.proofs.Above.{entries_above, above_front, found_there}
use Rattle.job_table.proofs.Changes.{not_both, some_same, same_itself}
use Rattle.job_table.proofs.Rows.{map_none}
use Rattle.job_table.proofs.Loaded.{reading_begin, reading_loaded, begun_with, same_nat}
use Rattle.job_table.proofs.Pieces.{job_rows_more}

pub append_none : {X : Type 0} (xs : List X) → xs ++ [] ≡ xs
append_none [] = refl
append_none (x ∷ xs) = ap (λ ys. x ∷ ys) (append_none xs)

-- The values of maps that grow at their end.
pub entries_none : {K X : Type 0} (R : K → K → Ordering) → finite.entries (finite.empty {X = X} {R = R}) ≡ []
entries_none R = ap (λ m. finite.entries m) (sym (map_none R)) ∙ finite.entries-from_sorted R [] tt

pub values_none : {K X : Type 0} (R : K → K → Ordering) → finite.values (finite.empty {X = X} {R = R}) ≡ []
values_none R = ap (map (λ e. e.1)) (entries_none R)

pub values_above : {K X : Type 0} (R : K → K → Ordering) (o : IsTotalOrder R) (m : finite.FinMap R X) (k : K) (v : X) → IsAbove R k (finite.keys m) → finite.values (finite.insert m k v) ≡ finite.values m ++ v ∷ []
values_above R o m k v above = ap (map (λ e. e.1)) (entries_above R o m k v above) ∙ map-append (λ e. e.1) (finite.entries m) ((k, v) ∷ [])

-- ## The documents of a table with one more job

module _ (s : State) (legal : IsLegal s) where
  -- Each entry is a job under its number.
  numbered : (front todo : List (ℕ × Job)) → front ++ todo ≡ finite.entries s.jobs → AllByRecursion (λ (e : ℕ × Job). e.1.id ≡ e.0) todo
  numbered front [] split = tt
  numbered front (e ∷ todo) split =
      let above = above_front nat_cmp nat_cmp_total front e todo (subst (λ es. T (is_sorted nat_cmp es)) (sym split) (finite.entries_sorted s.jobs)) in
      let here : job_at s e.0 ≡ Some e.1 = finite.get-entries s.jobs e.0 ∙ ap (find nat_cmp e.0) (sym split) ∙ found_there nat_cmp nat_cmp_total front e todo above in
      ((legal.jobs e.0 e.1 here).id, numbered (front ++ e ∷ []) todo (append_assoc front (e ∷ []) todo ∙ split))

-- These documents, and that of one more job.
abbrev with_document : (ℕ → List ℕ) → ℕ → List ℕ → ℕ → List ℕ
with_document documents j bytes k = cond (eq_by_cmp nat_cmp k j) bytes (documents k)

less_apart : (j k : ℕ) → nat_cmp j k ≡ Less → eq_by_cmp nat_cmp j k ≡ false
less_apart j k less = ap is_eq less

abbrev rows_with : (ℕ → List ℕ) → List Job → List Row
rows_with documents jobs = flat_map (λ r. job_rows r (documents r.id)) jobs

-- The rows of the jobs below it do not change.
rows_below : (documents : ℕ → List ℕ) (j : ℕ) (bytes : List ℕ) (es : List (ℕ × Job)) → AllByRecursion (λ (e : ℕ × Job). e.1.id ≡ e.0) es → IsAbove nat_cmp j (map (λ e. e.0) es) → rows_with (with_document documents j bytes) (map (λ e. e.1) es) ≡ rows_with documents (map (λ e. e.1) es)
rows_below documents j bytes [] ids above = refl
rows_below documents j bytes (e ∷ es) ids above =
    let other : eq_by_cmp nat_cmp e.1.id j ≡ false = ap (λ k. eq_by_cmp nat_cmp k j) ids.0 ∙ less_apart e.0 j above.0 in
    ap (λ b. job_rows e.1 (cond b bytes (documents e.1.id)) ++ rows_with (with_document documents j bytes) (map (λ e. e.1) es)) other
    ∙ ap (λ rows. job_rows e.1 (documents e.1.id) ++ rows) (rows_below documents j bytes es ids.1 above.1)

abbrev head_row : State → Row
head_row s = HeadRow (record { highest = s.highest; moment = s.moment })

-- One more queue, in a table without jobs.
queue_more : (s : State) (documents : ℕ → List ℕ) (q : QueueRow) → IsAbove (slice_cmp nat_cmp) q.name (finite.keys s.queues) → finite.values s.jobs ≡ [] → listing (with_queue s q) documents ≡ listing s documents ++ Queue q ∷ []
queue_more s documents q above none =
    ap (λ js. head_row s ∷ (map (λ q. Queue q) (finite.values (finite.insert s.queues q.name q)) ++ rows_with documents js)) none
    ∙ ap (λ qs. head_row s ∷ (map (λ q. Queue q) qs ++ [])) (values_above (slice_cmp nat_cmp) nat_list_cmp_total s.queues q.name q above)
    ∙ ap (λ rows. head_row s ∷ rows) (append_none _ ∙ map-append (λ q. Queue q) (finite.values s.queues) (q ∷ []) ∙ ap (λ rows. rows ++ Queue q ∷ []) (sym (append_none (map (λ q. Queue q) (finite.values s.queues)))))
    ∙ ap (λ js. (head_row s ∷ (map (λ q. Queue q) (finite.values s.queues) ++ rows_with documents js)) ++ Queue q ∷ []) (sym none)

-- One more job.
job_more : (s : State) (documents : ℕ → List ℕ) (r : Job) (bytes : List ℕ) → IsLegal s → IsAbove nat_cmp r.id (finite.keys s.jobs) → listing (with_job s r) (with_document documents r.id bytes) ≡ listing s documents ++ job_rows r bytes
job_more s documents r bytes legal above =
    let front : List Row = map (λ q. Queue q) (finite.values s.queues) in
    let own : rows_with (with_document documents r.id bytes) (r ∷ []) ≡ job_rows r bytes = append_none _ ∙ ap (λ b. job_rows r (cond b bytes (documents r.id))) (same_itself r.id) in
    ap (λ js. head_row s ∷ (front ++ rows_with (with_document documents r.id bytes) js)) (values_above nat_cmp nat_cmp_total s.jobs r.id r above)
    ∙ ap (λ rows. head_row s ∷ (front ++ rows)) (
    flat_map-append (λ x. job_rows x (with_document documents r.id bytes x.id)) (finite.values s.jobs) (r ∷ [])
    ∙ ap (λ rows. rows ++ rows_with (with_document documents r.id bytes) (r ∷ [])) (rows_below documents r.id bytes (finite.entries s.jobs) (numbered s legal [] (finite.entries s.jobs) refl) above)
    ∙ ap (λ rows. rows_with documents (finite.values s.jobs) ++ rows) own)
    ∙ ap (λ rows. head_row s ∷ rows) (sym (append_assoc front (rows_with documents (finite.values s.jobs)) (job_rows r bytes)))

fits_more : (s : State) (documents : ℕ → List ℕ) (r : Job) (bytes : List ℕ) → length bytes ≡ document_len r → AreDocuments s documents → AreDocuments (with_job s r) (with_document documents r.id bytes)
fits_more s documents r bytes long fit j x there = either (eq_by_cmp nat_cmp j r.id) (sym (finite.get-insert nat_cmp_total s.jobs r.id r j) ∙ there)
  where
    either : (b : Bool) → cond b (Some r) (finite.get s.jobs j) ≡ Some x → length (cond b bytes (documents j)) ≡ document_len x
    either true is = long ∙ ap document_len (some_same r x is)
    either false is = fit j x is

-- ## The accepted rows

abbrev partial_rows : Option Part → List ℕ → List Row
partial_rows None bytes = []
partial_rows (Some x) bytes = job_rows x.row bytes

abbrev HasCome : Option Part → List ℕ → Type 0
HasCome None bytes = Unit {0}
HasCome (Some x) bytes = length bytes ≡ x.read

abbrev rows_of : Progress → (ℕ → List ℕ) → List ℕ → List Row
rows_of p documents bytes = cond p.begun (listing p.state documents ++ partial_rows p.partial bytes) []

-- The rows are the listing of the loaded table, with some documents, followed by those of the job with an incomplete
-- document.
record AreTaken (p : Progress) (rows : List Row) : Type 0 where
  documents : ℕ → List ℕ
  bytes : List ℕ
  fit : AreDocuments p.state documents
  come : HasCome p.partial bytes
  are : rows ≡ rows_of p documents bytes

-- The last job, whether complete or not.
last_taken : (p : Progress) (x : Part) (documents : ℕ → List ℕ) (bytes : List ℕ) → p.begun ≡ true → IsLegal p.state → IsAbove nat_cmp x.row.id (finite.keys p.state.jobs) → AreDocuments p.state documents → length bytes ≡ x.read → (rows : List Row) → rows ≡ listing p.state documents ++ job_rows x.row bytes → AreTaken (with_last p x) rows
last_taken p x documents bytes begun legal above fit come rows are = either (x.read == document_len x.row) refl
  where
    either : (b : Bool) → (x.read == document_len x.row) ≡ b → AreTaken (cond b (record p { state = with_job p.state x.row; partial = None }) (record p { partial = Some x })) rows
    either true whole = record {
      documents = with_document documents x.row.id bytes;
      bytes = [];
      fit = fits_more p.state documents x.row bytes (come ∙ same_nat _ _ whole) fit;
      come = tt;
      are = are ∙ sym (ap (λ b. cond b (listing (with_job p.state x.row) (with_document documents x.row.id bytes) ++ []) []) begun ∙ append_none _ ∙ job_more p.state documents x.row bytes legal above);
    }
    either false short = record {
      documents = documents;
      bytes = bytes;
      fit = fit;
      come = come;
      are = are ∙ sym (ap (λ b. cond b (listing p.state documents ++ job_rows x.row bytes) []) begun);
    }

rows_whole : (p : Progress) (documents : ℕ → List ℕ) (bytes : List ℕ) → p.begun ≡ true → p.partial ≡ None → rows_of p documents bytes ≡ listing p.state documents
rows_whole p documents bytes begun whole = (λ i. cond (begun i) (listing p.state documents ++ partial_rows (whole i) bytes) []) ∙ append_none (listing p.state documents)

rows_partial : (p : Progress) (documents : ℕ → List ℕ) (bytes : List ℕ) (x : Part) → p.begun ≡ true → p.partial ≡ Some x → rows_of p documents bytes ≡ listing p.state documents ++ job_rows x.row bytes
rows_partial p documents bytes x begun is = λ i. cond (begun i) (listing p.state documents ++ partial_rows (is i) bytes) []

head_taken : (p : Progress) (head : Head) → p.begun ≡ false → (rows : List Row) → AreTaken p rows → AreTaken (loaded p (HeadRow head)) (rows ++ HeadRow head ∷ [])
head_taken p head first rows taken = record {
  documents = λ j. [];
  bytes = [];
  fit = λ j r there. absurd (not_both _ r (finite.get-empty nat_cmp j) there);
  come = tt;
  are = ap (λ rows. rows ++ HeadRow head ∷ []) (taken.are ∙ ap (λ b. cond b (listing p.state taken.documents ++ partial_rows p.partial taken.bytes) []) first)
      ∙ sym (append_none _ ∙ (λ i. HeadRow head ∷ (map (λ q. Queue q) (values_none {X = QueueRow} (slice_cmp nat_cmp) i) ++ rows_with (λ j. []) (values_none {X = Job} nat_cmp i))));
}

piece_taken : (p : Progress) (o : Option Part) → p.partial ≡ o → (j : ℕ) (piece : List ℕ) → IsPieceOf o j piece → IsReading p → (rows : List Row) → AreTaken p rows → AreTaken (with_next_piece p piece o) (rows ++ Piece j piece ∷ [])
piece_taken p None is j piece next reading rows taken = absurd next
piece_taken p (Some x) is j piece next reading rows taken =
    let part : IsPartial p.state x = subst (IsPartialIn p.state) is reading.partial in
    let begun = begun_with p x is reading.fresh in
    let come : length taken.bytes ≡ x.read = subst (λ o. HasCome o taken.bytes) is taken.come in
    let grown = job_rows_more x.row taken.bytes piece part.pieces.0 (come ∙ part.pieces.1) (omega (arith, next.full, part.short)) (omega (arith, next.full)) in
    last_taken p (with_piece piece x) taken.documents (taken.bytes ++ piece) begun reading.legal part.new.above taken.fit
    (length-append taken.bytes piece ∙ ap (λ n. n + length piece) come) (rows ++ Piece j piece ∷ [])
    (ap (λ rows. rows ++ Piece j piece ∷ []) (taken.are ∙ rows_partial p taken.documents taken.bytes x begun is)
    ∙ append_assoc (listing p.state taken.documents) (job_rows x.row taken.bytes) (Piece j piece ∷ [])
    ∙ ap (λ k. listing p.state taken.documents ++ (job_rows x.row taken.bytes ++ Piece k piece ∷ [])) (sym next.own)
    ∙ ap (λ rows. listing p.state taken.documents ++ rows) (sym grown))

row_taken : (p : Progress) (row : Row) → IsPlaced p row → IsReading p → (rows : List Row) → AreTaken p rows → AreTaken (loaded p row) (rows ++ row ∷ [])
row_taken p (HeadRow head) placed reading rows taken = head_taken p head placed.first rows taken
row_taken p (Queue q) placed reading rows taken = record {
  documents = taken.documents;
  bytes = taken.bytes;
  fit = taken.fit;
  come = taken.come;
  are = ap (λ rows. rows ++ Queue q ∷ []) (taken.are ∙ rows_whole p taken.documents taken.bytes placed.begun placed.whole)
      ∙ sym (queue_more p.state taken.documents q placed.new.above placed.new.no_jobs)
      ∙ sym (rows_whole (loaded p (Queue q)) taken.documents taken.bytes placed.begun placed.whole);
}
row_taken p (JobRow r) placed reading rows taken =
    last_taken p (begun_part r) taken.documents [] placed.begun reading.legal placed.new.above taken.fit refl (rows ++ JobRow r ∷ [])
    (ap (λ rows. rows ++ JobRow r ∷ []) (taken.are ∙ rows_whole p taken.documents taken.bytes placed.begun placed.whole))
row_taken p (Piece j bytes) placed reading rows taken = piece_taken p p.partial refl j bytes placed reading rows taken

pub reading_all : (rows : List Row) (p : Progress) → ArePlaced p rows → IsReading p → IsReading (loaded_all p rows)
reading_all [] p placed reading = reading
reading_all (row ∷ rows) p placed reading = reading_all rows (loaded p row) placed.1 (reading_loaded p row placed.0 reading)

all_taken : (rows : List Row) (p : Progress) → ArePlaced p rows → IsReading p → (front : List Row) → AreTaken p front → AreTaken (loaded_all p rows) (front ++ rows)
all_taken [] p placed reading front taken = subst (AreTaken p) (sym (append_none front)) taken
all_taken (row ∷ rows) p placed reading front taken =
    subst (AreTaken (loaded_all (loaded p row) rows)) (append_assoc front (row ∷ []) rows)
    (all_taken rows (loaded p row) placed.1 (reading_loaded p row placed.0 reading) (front ++ row ∷ []) (row_taken p row placed.0 reading front taken))

some_begun : (p : Progress) (rows : List Row) → AreTaken p rows → rows ≢ [] → p.begun ≡ true
some_begun p rows taken some = either p.begun refl
  where
    either : (b : Bool) → p.begun ≡ b → b ≡ true
    either true e = refl
    either false e = absurd (some (taken.are ∙ ap (λ b. cond b (listing p.state taken.documents ++ partial_rows p.partial taken.bytes) []) e))

-- Only listings are accepted.
pub only_listings : (v : Version) (rows : List Row) → ArePlaced (begin_loading v) rows → IsWhole (loaded_all (begin_loading v) rows) → rows ≢ [] →
    IsLegal (loaded_all (begin_loading v) rows).state × ((documents : ℕ → List ℕ) × AreDocuments (loaded_all (begin_loading v) rows).state documents × (rows ≡ listing (loaded_all (begin_loading v) rows).state documents))
only_listings v rows placed whole some =
    let none : AreTaken (begin_loading v) [] = record { documents = λ j. []; bytes = []; fit = λ j r there. absurd (not_both _ r (finite.get-empty nat_cmp j) there); come = tt; are = refl } in
    let taken = all_taken rows (begin_loading v) placed (reading_begin v) [] none in
    let begun = some_begun (loaded_all (begin_loading v) rows) rows taken some in
    ((reading_all rows (begin_loading v) placed (reading_begin v)).legal, (taken.documents, taken.fit, taken.are ∙ rows_whole (loaded_all (begin_loading v) rows) taken.documents taken.bytes begun whole))
