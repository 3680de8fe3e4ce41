-- The pieces of a listing.
use Rattle.std.proofs.Common.{◌≡◌, ◌≢◌, ℕ, zero, suc, ◌+◌, ◌*◌, ◌/◌, ◌≤◌, List, [], ◌∷◌, ◌++◌, true, false, length, take, drop, map, refl, sym, ◌∙◌, ap, arith, append_assoc, take-append-drop, length-drop, length-append}
use Rattle.std.proofs.lemmas.List.{append-nil}
use Rattle.std.proofs.lemmas.Bool.Decides.{nat_tests}
use Rattle.std.specs.List.{flat_map, AllByRecursion}
use Rattle.std.specs.Prelude.{◌==◌, if◌then◌else◌}
use Rattle.spool_types.specs.State.{Job}
use Rattle.spool_types.specs.Limits.{longest_send}
use Rattle.spool_types.specs.declared.event.Event.{Event}
use Rattle.spool_types.specs.declared.listing.Row.{Row}
use Rattle.spool_types.specs.declared.version.Version.{Version}
use Rattle.spool_types.specs.declared.listing.Row.TheVariants.{Head, Queue, Job as JobRow, Piece}
use Rattle.event_codec.specs.Spelling.{spelling}
use Rattle.event_codec.specs.RowSpelling.{row_spelling}
use Rattle.job_table.specs.Listing.{parts, job_rows}
use Rattle.gate_journal.specs.Entries.{records}
use Rattle.extents.specs.declared.extent.Extent.{Extent}
use Rattle.spool_areas.specs.Header.{header_len}
use Rattle.spool_areas.specs.Payloads.{HasPayloads, gate_after}
use Rattle.extents.specs.Extents.{size_of}
use Rattle.documents.specs.Documents.{joined, LieIn}
use Rattle.spool_types.specs.Sent.{sent_by, piece_of, sent_to, sent_in, sent, listed_pieces, document_in, placed_to}
use Rattle.documents.specs.Placed.{placed, placed_pieces, payloads_of, places_in, SpellsSent}
use Rattle.documents.proofs.Joined.{size_of-append}
use Rattle.documents.proofs.Placed.{front_of, sends_behind, spells_sent, joined-append, LieIn-append, wider_lie, held_all, held_last, lie_between, one_more, sized, gate_after-append}

-- A piece spells its bytes after nine others, in each version.
pub spells_pieces : (v : Version) → SpellsSent (row_spelling v) piece_of
spells_pieces v (Piece j part) k bytes is = (front_of 0x43 k bytes, refl, sends_behind 0x43 (j, part) (k, bytes) is)
spells_pieces v (Head head) k bytes is = absurd (cc is)
spells_pieces v (Queue q) k bytes is = absurd (cc is)
spells_pieces v (JobRow r) k bytes is = absurd (cc is)

same_test : (k j : ℕ) → k ≡ j → (k == j) ≡ true
same_test k j is = grind (arith, nat_tests)

other_test : (k j : ℕ) → k ≢ j → (k == j) ≡ false
other_test k j apart = grind (arith, nat_tests)

-- Enough parts hold all of the bytes.
parts_whole : (k j n : ℕ) (bytes : List ℕ) → (k == j) ≡ true → length bytes ≤ n * 65536 → sent_in piece_of (map (λ b. Piece k b) (parts longest_send n bytes)) j ≡ bytes
parts_whole k j zero [] same fits = refl
parts_whole k j zero (b ∷ bytes) same fits = absurd (omega arith)
parts_whole k j (suc n) bytes same fits =
    ap (λ t. (if t then take longest_send bytes else []) ++ sent_in piece_of (map (λ b. Piece k b) (parts longest_send n (drop longest_send bytes))) j) same
    ∙ ap (λ (l : List ℕ). take longest_send bytes ++ l) (parts_whole k j n (drop longest_send bytes) same (omega (arith, length-drop longest_send bytes, fits)))
    ∙ take-append-drop longest_send bytes

parts_other : (k j n : ℕ) (bytes : List ℕ) → (k == j) ≡ false → sent_in piece_of (map (λ b. Piece k b) (parts longest_send n bytes)) j ≡ []
parts_other k j zero bytes apart = refl
parts_other k j (suc n) bytes apart =
    ap (λ t. (if t then take longest_send bytes else []) ++ sent_in piece_of (map (λ b. Piece k b) (parts longest_send n (drop longest_send bytes))) j) apart ∙ parts_other k j n (drop longest_send bytes) apart

pub whole : (r : Job) (document : List ℕ) → sent_in piece_of (job_rows r document) r.id ≡ document
whole r document = parts_whole r.id r.id ((length document + 65535) / 65536) document (same_test r.id r.id refl) (omega arith)

pub others : (r : Job) (document : List ℕ) (j : ℕ) → r.id ≢ j → sent_in piece_of (job_rows r document) j ≡ []
others r document j apart = parts_other r.id j ((length document + 65535) / 65536) document (other_test r.id j apart)

sent-append : (xs ys : List Row) (j : ℕ) → sent_in piece_of (xs ++ ys) j ≡ sent_in piece_of xs j ++ sent_in piece_of ys j
sent-append [] ys j = refl
sent-append (x ∷ xs) ys j = ap (λ (l : List ℕ). sent_to j (piece_of x) ++ l) (sent-append xs ys j) ∙ sym (append_assoc (sent_to j (piece_of x)) (sent_in piece_of xs j) (sent_in piece_of ys j))

-- The rows of jobs, each with its document.
abbrev rows_with : (ℕ → List ℕ) → List Job → List Row
rows_with documents jobs = flat_map (λ q. job_rows q (documents q.id)) jobs

none_of : (documents : ℕ → List ℕ) (jobs : List Job) (j : ℕ) → AllByRecursion (λ (q : Job). q.id ≢ j) jobs → sent_in piece_of (rows_with documents jobs) j ≡ []
none_of documents [] j apart = refl
none_of documents (q ∷ jobs) j apart =
    sent-append (job_rows q (documents q.id)) (rows_with documents jobs) j ∙ ap (λ (l : List ℕ). l ++ sent_in piece_of (rows_with documents jobs) j) (others q (documents q.id) j apart.0) ∙ none_of documents jobs j apart.1

-- In a list of jobs with distinct numbers each has its document.
pub in_listing : (documents : ℕ → List ℕ) (before after : List Job) (r : Job) → AllByRecursion (λ (q : Job). q.id ≢ r.id) before → AllByRecursion (λ (q : Job). q.id ≢ r.id) after
    → sent_in piece_of (rows_with documents (before ++ r ∷ after)) r.id ≡ documents r.id
in_listing documents [] after r one two =
    sent-append (job_rows r (documents r.id)) (rows_with documents after) r.id ∙ ap (λ (l : List ℕ). l ++ sent_in piece_of (rows_with documents after) r.id) (whole r (documents r.id))
    ∙ ap (λ (l : List ℕ). documents r.id ++ l) (none_of documents after r.id two) ∙ append-nil (documents r.id)
in_listing documents (q ∷ before) after r one two =
    sent-append (job_rows q (documents q.id)) (rows_with documents (before ++ r ∷ after)) r.id ∙ ap (λ (l : List ℕ). l ++ sent_in piece_of (rows_with documents (before ++ r ∷ after)) r.id) (others q (documents q.id) r.id one.0)
    ∙ in_listing documents before after r one.1 two

-- ---- a listing, and events after it

pub history : (v : Version) (base j : ℕ) (rows : List Row) (events : List Event) (bytes : List ℕ) → HasPayloads base (payloads_of v rows events) bytes → joined bytes (places_in v base rows events j) ≡ document_in rows events j
history v base j rows events bytes has =
    let gate = gate_after base (map (row_spelling v) rows) in
    joined-append bytes (placed_pieces v (base + header_len) rows j) (placed gate events j)
    ∙ ap (λ (l : List ℕ). l ++ joined bytes (placed gate events j)) (held_all (row_spelling v) piece_of (spells_pieces v) base bytes (map spelling events) rows j has)
    ∙ ap (λ (l : List ℕ). listed_pieces rows j ++ l) (held_last spelling sent_by spells_sent base bytes (map (row_spelling v) rows) events j has)

pub history_within : (v : Version) (base j : ℕ) (rows : List Row) (events : List Event) → LieIn (base + header_len) (gate_after base (payloads_of v rows events)) (places_in v base rows events j)
history_within v base j rows events =
    let first = base + header_len in
    let gate = gate_after base (map (row_spelling v) rows) in
    let end = gate_after base (payloads_of v rows events) in
    let sum = gate_after-append base (map (row_spelling v) rows) (map spelling events) in
    LieIn-append first end (placed_pieces v first rows j) (placed gate events j)
    (wider_lie first gate first end (placed_pieces v first rows j) (omega arith) (omega (arith, sum)) (lie_between (row_spelling v) piece_of (spells_pieces v) first rows j))
    (wider_lie gate (gate + length (records (map spelling events))) first end (placed gate events j) (omega arith) (omega (arith, sum)) (lie_between spelling sent_by spells_sent gate events j))

pub history_added : (v : Version) (base j : ℕ) (rows : List Row) (events : List Event) (e : Event) → places_in v base rows (events ++ e ∷ []) j ≡ places_in v base rows events j ++ placed_to (gate_after base (payloads_of v rows events) + 5) j (sent_by e)
history_added v base j rows events e =
    let gate = gate_after base (map (row_spelling v) rows) in
    let front = placed_pieces v (base + header_len) rows j in
    ap (λ (l : List Extent). front ++ l)
    (one_more spelling sent_by spells_sent gate events e j
    ∙ ap (λ (n : ℕ). placed gate events j ++ placed_to (n + 5) j (sent_by e)) (sym (gate_after-append base (map (row_spelling v) rows) (map spelling events))))
    ∙ sym (append_assoc front (placed gate events j) (placed_to (gate_after base (payloads_of v rows events) + 5) j (sent_by e)))

pub history_size : (v : Version) (base j : ℕ) (rows : List Row) (events : List Event) → size_of (places_in v base rows events j) ≡ length (document_in rows events j)
history_size v base j rows events =
    let gate = gate_after base (map (row_spelling v) rows) in
    omega (arith, size_of-append (placed_pieces v (base + header_len) rows j) (placed gate events j), sized (row_spelling v) piece_of (spells_pieces v) (base + header_len) rows j, sized spelling sent_by spells_sent gate events j, length-append (listed_pieces rows j) (sent events j))
