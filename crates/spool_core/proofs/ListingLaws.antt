-- The rows of a table's listing.
use Rattle.std.proofs.Common.{◌≡◌, ⊎_elim, ℕ, zero, suc, ◌+◌, ◌-◌, ◌*◌, ◌/◌, ◌%◌, ◌<◌, ◌≤◌, true, List, [], ◌∷◌, ◌++◌, length, get_or, take, drop, map, min, refl, sym, subst, ap, ◌∙◌, arith, length-drop}
use Rattle.std.specs.Prelude.{Result, Ok, Err, IfOk, OnOk, OnErr}
use Rattle.std.specs.List.{list_all, AllByRecursion}
use Rattle.std.specs.Ordering.{nat_cmp, is_lt}
use Rattle.std.specs.Cmp.Lexicographic.{slice_cmp}
use Rattle.std.proofs.lemmas.Bool.{and_parts, cases_lt}
use Rattle.std.proofs.lemmas.List.{map-append, take_more, drop_more, take-append-drop, take_all}
use Rattle.std.proofs.lemmas.Nat.{div-mul-add, div-add-mod'}
use Rattle.std.proofs.Math.Nat.{mod-lt}
use Rattle.spool_types.specs.Limits.{longest_send}
use Rattle.spool_types.specs.State.{Job}
use Rattle.spool_types.specs.declared.phase.Phase.{Phase}
use Rattle.spool_types.specs.declared.phase.Phase.TheVariants.{Incoming, Waiting, Processing, Completed, Canceled, Aborted}
use Rattle.spool_types.specs.declared.rows.QueueRow.{QueueRow}
use Rattle.spool_types.specs.declared.listing.Row.{Row}
use Rattle.spool_types.specs.declared.listing.Row.TheVariants.{Queue, Job as JobRow}
use Rattle.row_effects.specs.EffectFold.{IsInOrder}
use Rattle.row_effects.specs.Keys.{is_ascending}
use Rattle.row_effects.specs.QueueReasons.{word_of}
use Rattle.row_effects.specs.QueueAttributes.{name_of}
use Rattle.job_table.specs.Legal.{Fits}
use Rattle.job_table.specs.Listing.{parts, pieces, job_rows}
use Rattle.job_table.specs.Loading.{Progress, ArePlaced, loaded, loaded_all}
use Rattle.event_codec.specs.RowSpelling.{Ascend, IsOrderedQueue, IsPhaseOf, IsLegalRow}
use Rattle.spool_core.specs.Checkpointing.{MayBeListed}
use Rattle.spool_core.specs.ListingFilling.{rows_of}

-- ## Rows can represent a legal table

ascends : {Y : Type 0} (key : Y → List ℕ) (ys : List Y) → is_ascending key ys ≡ true → Ascend (map key ys)
ascends key [] is = tt
ascends key (a ∷ []) is = tt
ascends key (a ∷ b ∷ rest) is =
    let parts = and_parts (list_all (λ z. is_lt (slice_cmp nat_cmp (key a) (key z))) (b ∷ rest)) (is_ascending key (b ∷ rest)) is in
    let first = and_parts (is_lt (slice_cmp nat_cmp (key a) (key b))) (list_all (λ z. is_lt (slice_cmp nat_cmp (key a) (key z))) rest) parts.0 in
    (first.0, ascends key (b ∷ rest) parts.1)

same_words : (words : List (List ℕ)) → map word_of words ≡ words
same_words [] = refl
same_words (word ∷ words) = ap (λ (l : List (List ℕ)). word ∷ l) (same_words words)

ordered : (q : QueueRow) → IsInOrder q → IsOrderedQueue q
ordered q is = record {
  reasons = subst Ascend (same_words q.reasons) (ascends word_of q.reasons is.reasons);
  attributes = ascends name_of q.attributes is.attributes;
}

placed_behind : (p : Progress) (front back : List Row) → ArePlaced p (front ++ back) → ArePlaced (loaded_all p front) back
placed_behind p [] back placed = placed
placed_behind p (row ∷ front) back placed = placed_behind (loaded p row) front back placed.1

queues_ordered : (qs : List QueueRow) (p : Progress) (rest : List Row) → ArePlaced p (map (λ q. Queue q) qs ++ rest) → AllByRecursion IsOrderedQueue qs
queues_ordered [] p rest placed = tt
queues_ordered (q ∷ qs) p rest placed = (ordered q placed.0.new.in_order, queues_ordered qs (loaded p (Queue q)) rest placed.1)

jobs_may : (documents : ℕ → List ℕ) (rs : List Job) (p : Progress) → ArePlaced p (rows_of documents rs) → AllByRecursion MayBeListed rs
jobs_may documents [] p placed = tt
jobs_may documents (r ∷ rs) p placed = (
  record { size = placed.0.new.size; phase = placed.0.new.phase },
  jobs_may documents rs (loaded_all p (job_rows r (documents r.id))) (placed_behind p (job_rows r (documents r.id)) (rows_of documents rs) placed),
)

-- The rows of a listing, each of which may come next, represent the queues and the jobs.
pub record AreTold (qs : List QueueRow) (rs : List Job) : Type 0 where
  pub queues : AllByRecursion IsOrderedQueue qs
  pub jobs : AllByRecursion MayBeListed rs

pub told : (documents : ℕ → List ℕ) (qs : List QueueRow) (rs : List Job) (p : Progress) → ArePlaced p (map (λ q. Queue q) qs ++ rows_of documents rs) → AreTold qs rs
told documents qs rs p placed = record {
  queues = queues_ordered qs p (rows_of documents rs) placed;
  jobs = jobs_may documents rs (loaded_all p (map (λ q. Queue q) qs)) (placed_behind p (map (λ q. Queue q) qs) (rows_of documents rs) placed);
}

phase_of : (r : Job) (phase : Phase) → Fits r phase → length r.filters ≤ 15 → IsPhaseOf r phase
phase_of r (Incoming hold) fits few = tt
phase_of r (Waiting hold not_before first) fits few = tt
phase_of r (Processing attempt stage stages) fits few = record {
  newest = fits.newest;
  stage_is = record { at_least = fits.from_first; at_most = omega (arith, fits.to_last, fits.of_all, few) };
  of_all = fits.of_all;
}
phase_of r Completed fits few = tt
phase_of r Canceled fits few = tt
phase_of r (Aborted reason) fits few = tt

pub legal_job : (r : Job) → MayBeListed r → length r.filters ≤ 15 → IsLegalRow (JobRow r)
legal_job r may few = record { size = record { at_least = omega arith; at_most = may.size }; phase = phase_of r r.phase may.phase few }

-- An element of a list with a property of all its elements.
pub all_at : {X : Type 0} (P : X → Type 0) (xs : List X) (i : ℕ) (d : X) → i < length xs → AllByRecursion P xs → P (get_or xs i d)
all_at P [] i d lt all = absurd (omega (arith, lt))
all_at P (x ∷ xs) zero d lt all = all.0
all_at P (x ∷ xs) (suc i) d lt all = all_at P xs i d (omega (arith, lt)) all.1

-- ## Rows in order

pub queues_next : (qs : List QueueRow) (i : ℕ) (q : QueueRow) → i < length qs → q ≡ get_or qs i q → map (λ x. Queue x) (take (i + 1) qs) ≡ map (λ x. Queue x) (take i qs) ++ Queue q ∷ []
queues_next qs i q lt is =
    let row : QueueRow → Row = λ x. Queue x in
    ap (map row) (take_more qs i q lt) ∙ map-append row (take i qs) (get_or qs i q ∷ []) ∙ ap (λ (x : QueueRow). map row (take i qs) ++ row x ∷ []) (sym is)

pub queues_split : (qs : List QueueRow) (i : ℕ) (q : QueueRow) → i < length qs → q ≡ get_or qs i q → map (λ x. Queue x) qs ≡ map (λ x. Queue x) (take i qs) ++ (Queue q ∷ map (λ x. Queue x) (drop (i + 1) qs))
queues_split qs i q lt is =
    let row : QueueRow → Row = λ x. Queue x in
    ap (map row) (sym (take-append-drop i qs)) ∙ map-append row (take i qs) (drop i qs)
    ∙ ap (λ (l : List QueueRow). map row (take i qs) ++ map row l) (drop_more qs i q lt ∙ ap (λ (x : QueueRow). x ∷ drop (i + 1) qs) (sym is))

-- ## Results

pub on_ok : {T E : Type 0} {P Q : Type 0} (r : Result T E) → OnOk r P → (P → Q) → OnOk r Q
on_ok (Ok x) is more = more is
on_ok (Err e) is more = tt

pub ok_by : {T E : Type 0} {P : Type 0} (r : Result T E) → P → OnOk r P
ok_by (Ok x) is = is
ok_by (Err e) is = tt

pub if_ok : {T E : Type 0} {P Q : T → Type 0} (r : Result T E) → IfOk r P → ((t : T) → P t → Q t) → IfOk r Q
if_ok (Ok t) is more = more t is
if_ok (Err e) is more = tt

pub on_err : {T E : Type 0} {P Q : Type 0} (r : Result T E) → OnErr r P → (P → Q) → OnErr r Q
on_err (Ok x) is more = tt
on_err (Err e) is more = more is

-- ## The pieces of a document

less_count : (n : ℕ) → 0 < n → n ≤ 65536 → (n + 65535) / 65536 ≡ 1
less_count n some le =
    let is : n + 65535 ≡ 1 * 65536 + (n - 1) = omega arith in
    ap (λ (m : ℕ). m / 65536) is ∙ div-mul-add 1 65536 (n - 1) (omega arith)

more_count : (n : ℕ) → 65536 < n → (n + 65535) / 65536 ≡ suc ((n - 65536 + 65535) / 65536)
more_count n more =
    let x = n - 65536 + 65535 in
    let split : x / 65536 * 65536 + x % 65536 ≡ x = div-add-mod' x 65536 in
    let is : n + 65535 ≡ suc (x / 65536) * 65536 + x % 65536 = omega (arith, split, more) in
    ap (λ (m : ℕ). m / 65536) is ∙ div-mul-add (suc (x / 65536)) 65536 (x % 65536) (mod-lt x (omega arith))

few_next : (bytes : List ℕ) → 0 < length bytes → length bytes ≤ 65536 → pieces bytes ≡ take (min (length bytes) longest_send) bytes ∷ pieces (drop (min (length bytes) longest_send) bytes)
few_next bytes some le =
    let m = min (length bytes) 65536 in
    let same : take 65536 bytes ≡ take m bytes = take_all 65536 bytes le ∙ sym (take_all m bytes (omega (arith, le))) in
    let rest : 0 ≡ length (drop m bytes) = omega (arith, le, length-drop m bytes) in
    ap (λ (k : ℕ). parts 65536 k bytes) (less_count (length bytes) some le)
    ∙ (λ i. same i ∷ parts 65536 ((rest i + 65535) / 65536) (drop m bytes))

many_next : (bytes : List ℕ) → 65536 < length bytes → pieces bytes ≡ take (min (length bytes) longest_send) bytes ∷ pieces (drop (min (length bytes) longest_send) bytes)
many_next bytes more =
    let m = min (length bytes) 65536 in
    let whole : 65536 ≡ m = omega (arith, more) in
    let rest : length bytes - 65536 ≡ length (drop m bytes) = omega (arith, more, length-drop m bytes) in
    ap (λ (k : ℕ). parts 65536 k bytes) (more_count (length bytes) more)
    ∙ (λ i. take (whole i) bytes ∷ parts 65536 ((rest i + 65535) / 65536) (drop (whole i) bytes))

-- The first piece, and those of the rest.
pub pieces_next : (bytes : List ℕ) → 0 < length bytes → pieces bytes ≡ take (min (length bytes) longest_send) bytes ∷ pieces (drop (min (length bytes) longest_send) bytes)
pieces_next bytes some = ⊎_elim (many_next bytes) (few_next bytes some) (cases_lt 65536 (length bytes))
