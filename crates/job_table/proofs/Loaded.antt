-- The progress after rows of a listing: the table is legal, and the incomplete job may be added to it.
use Rattle.std.proofs.Common.{◌≡◌, ℕ, ◌+◌, ◌-◌, ◌*◌, ◌<◌, Bool, true, false, cond, ◌==◌, List, length, min, Some, None, Option, refl, sym, ap, subst, ◌∙◌, arith, rules}
use Rattle.std.specs.Option.{option_map}
use Rattle.std.specs.FinMap as finite
use Rattle.std.specs.Ordering.{nat_cmp}
use Rattle.spool_types.specs.Busy.{is_busy}
use Rattle.spool_types.specs.Limits.{longest_send}
use Rattle.spool_types.specs.Phases.{has_ended}
use Rattle.spool_types.specs.State.{State, Job}
use Rattle.spool_types.specs.declared.rows.QueueRow.{QueueRow}
use Rattle.spool_types.specs.declared.version.Version.{Version}
use Rattle.spool_types.specs.declared.listing.Head.{Head}
use Rattle.spool_types.specs.declared.listing.Row.{Row}
use Rattle.spool_types.specs.declared.listing.Row.TheVariants.{Head as HeadRow, Queue, Job as JobRow, Piece}
use Rattle.job_table.specs.DocumentLengths.{document_len}
use Rattle.job_table.specs.Legal.{IsLegal}
use Rattle.job_table.specs.Loading.{Part, Progress, begin_loading, begun_part, headed, with_queue, with_job, with_piece, with_last, with_next_piece, loaded, IsNewJob, IsNextQueue, IsNextPiece, IsPieceOf, IsPlaced}
use Rattle.job_table.specs.LoadingFields.{IsPartial, IsPartialIn, IsFresh, IsReading, IsGrown, part_of}
use Rattle.job_table.specs.declared.loading.Partial.{Partial}
use Rattle.job_table.proofs.Changes.{apart, some_same, one_more, legal_queue, legal_put}
use Rattle.job_table.proofs.Legal.{legal_nothing}
use Rattle.job_table.proofs.Rules.{busy_found}

pub reading_begin : (v : Version) → IsReading (begin_loading v)
reading_begin v = record { legal = legal_nothing v; fresh = λ e. record { state = refl; whole = refl }; partial = tt }

legal_headed : (v : Version) (head : Head) → IsLegal (headed v head)
legal_headed v head = record {
  few_queues = (legal_nothing v).few_queues;
  names = (legal_nothing v).names;
  in_order = (legal_nothing v).in_order;
  numbers = λ j lt. finite.get-empty nat_cmp j;
  jobs = (legal_nothing v).jobs;
  one_processing = (legal_nothing v).one_processing;
}

pub reading_head : (p : Progress) (head : Head) → IsReading (loaded p (HeadRow head))
reading_head p head = record { legal = legal_headed p.state.version head; fresh = λ e. absurd (cc); partial = tt }

pub legal_next_queue : (p : Progress) (q : QueueRow) → IsNextQueue p q → IsLegal p.state → IsLegal (with_queue p.state q)
legal_next_queue p q next legal = legal_queue p.state q (one_more p.state.queues q.name q next.new.few) next.new.in_order legal

pub reading_queue : (p : Progress) (q : QueueRow) → IsNextQueue p q → IsReading p → IsReading (loaded p (Queue q))
reading_queue p q next reading = record {
  legal = legal_next_queue p q next reading.legal;
  fresh = λ e. absurd (apart p.begun next.begun e);
  partial = subst (IsPartialIn (with_queue p.state q)) (sym next.whole) tt;
}

-- A job with a complete document is added.
pub legal_new_job : (s : State) (r : Job) → IsLegal s → IsNewJob s r → IsLegal (with_job s r)
legal_new_job s r legal new = legal_put s r.id s.highest r (λ k q at_k same busy busy_too. absurd (apart (is_busy (finite.values s.jobs) r.queue) (busy_found s k q r.queue at_k same busy_too) (new.alone busy))) legal (omega arith) new.given (record {
  id = refl;
  queue = new.queue;
  phase = new.phase;
  size = new.size;
})

pub same_nat : (m n : ℕ) → (m == n) ≡ true → m ≡ n
same_nat m n e = grind (arith, rules)

-- The last job, with the bytes of its document that were read.
pub reading_last : (p : Progress) (x : Part) → p.begun ≡ true → IsLegal p.state → IsNewJob p.state x.row → ((x.read == document_len x.row) ≡ false → IsPartial p.state x) → IsReading (with_last p x)
reading_last p x begun legal new short = either (x.read == document_len x.row) refl
  where
    either : (b : Bool) → (x.read == document_len x.row) ≡ b → IsReading (cond b (record p { state = with_job p.state x.row; partial = None }) (record p { partial = Some x }))
    either true e = record { legal = legal_new_job p.state x.row legal new; fresh = λ f. absurd (apart p.begun begun f); partial = tt }
    either false e = record { legal = legal; fresh = λ f. absurd (apart p.begun begun f); partial = short e }

-- A listed job has no bytes yet.
pub listed_short : (s : State) (r : Job) → IsNewJob s r → (0 == document_len r) ≡ false → IsPartial s (begun_part r)
listed_short s r new short = either (has_ended r.phase) refl short
  where
    either : (b : Bool) → has_ended r.phase ≡ b → (0 == cond b 0 r.size) ≡ false → IsPartial s (begun_part r)
    either true e short = absurd (cc)
    either false e short = record { new = new; goes_on = e; short = grind (arith, rules); pieces = (0, omega arith) }

-- One more full piece, or the end of the document.
one_piece_more : (old more size n : ℕ) → old ≡ n * longest_send → more ≡ min (size - old) longest_send → old < size → ¬ (old + more ≡ size) → (old + more < size) × (old + more ≡ (n + 1) * longest_send)
one_piece_more old more size n is piece lt other = (omega arith, omega arith)

not_same : (m n : ℕ) → (m == n) ≡ false → ¬ (m ≡ n)
not_same m n e f = grind (arith, rules)

pub piece_short : (s : State) (x : Part) (j : ℕ) (bytes : List ℕ) → IsNextPiece x j bytes → IsPartial s x → (x.read + length bytes == document_len x.row) ≡ false → IsPartial s (with_piece bytes x)
piece_short s x j bytes next part other =
    let apart_from : ¬ (x.read + length bytes ≡ x.row.size) = λ e. not_same _ _ other (e ∙ sym (ap (λ b. cond b 0 x.row.size) part.goes_on)) in
    let more = one_piece_more x.read (length bytes) x.row.size part.pieces.0 part.pieces.1 next.full part.short apart_from in
    record { new = part.new; goes_on = part.goes_on; short = more.0; pieces = (part.pieces.0 + 1, more.1) }

-- A job can be incomplete only after the head.
pub begun_with : (p : Progress) (r : Part) → p.partial ≡ Some r → (p.begun ≡ false → IsFresh p) → p.begun ≡ true
begun_with p r is fresh = either p.begun refl
  where
    either : (b : Bool) → p.begun ≡ b → b ≡ true
    either true e = refl
    either false e = let f = (fresh e).whole in absurd (cc)

pub reading_piece : (p : Progress) (o : Option Part) → p.partial ≡ o → (j : ℕ) (bytes : List ℕ) → IsPieceOf o j bytes → IsReading p → IsReading (loaded p (Piece j bytes))
reading_piece p None is j bytes next reading = absurd next
reading_piece p (Some x) is j bytes next reading =
    let part : IsPartial p.state x = subst (IsPartialIn p.state) is reading.partial in
    subst (λ o. IsReading (loaded (record p { partial = o }) (Piece j bytes))) (sym is)
    (reading_last (record p { partial = Some x }) (with_piece bytes x) (begun_with p x is reading.fresh) reading.legal part.new (piece_short p.state x j bytes next part))

pub reading_loaded : (p : Progress) (row : Row) → IsPlaced p row → IsReading p → IsReading (loaded p row)
reading_loaded p (HeadRow head) placed reading = reading_head p head
reading_loaded p (Queue q) placed reading = reading_queue p q placed reading
reading_loaded p (JobRow r) placed reading = reading_last p (begun_part r) placed.begun reading.legal placed.new (listed_short p.state r placed.new)
reading_loaded p (Piece j bytes) placed reading = reading_piece p p.partial refl j bytes placed reading

-- The parts of a progress determine it.
pub progress_is : (q : Progress) (p : Progress) → p.state ≡ q.state → p.begun ≡ q.begun → p.partial ≡ q.partial → p ≡ q
progress_is q p state begun partial = λ i. record { state = state i; begun = begun i; partial = partial i }

pub read_on : (p q : Progress) (row : Row) → IsPlaced p row → IsReading p → q ≡ loaded p row → IsReading q
read_on p q row placed reading is = subst IsReading (sym is) (reading_loaded p row placed reading)

-- The progress after the last job was settled.
settled_by : (p : Progress) (x : Part) (s : State) (o : Option Part) (b : Bool) → s ≡ cond b (with_job p.state x.row) p.state → o ≡ cond b None (Some x) → record { state = s; begun = p.begun; partial = o } ≡ cond b (record p { state = with_job p.state x.row; partial = None }) (record p { partial = Some x })
settled_by p x s o true state rest = progress_is _ _ state refl rest
settled_by p x s o false state rest = progress_is _ _ state refl rest

module _ (p : Progress) (t : State) (x : Part) (s : State) (rest : Option Part) (same : t ≡ p.state) (state : s ≡ cond (x.read == document_len x.row) (with_job t x.row) t) (rest_is : rest ≡ cond (x.read == document_len x.row) None (Some x)) where
  pub settled : (y : Part) → x ≡ y → record { state = s; begun = p.begun; partial = rest } ≡ with_last p y
  settled y is =
      settled_by (record p { state = t }) x s rest (x.read == document_len x.row) state rest_is
      ∙ (λ i. with_last (record p { state = same i }) (is i))

  pub settled_piece : (bytes : List ℕ) (o : Option Part) → Some x ≡ option_map (with_piece bytes) o → record { state = s; begun = p.begun; partial = rest } ≡ with_next_piece p bytes o
  settled_piece bytes None is = absurd (cc)
  settled_piece bytes (Some y) is = settled (with_piece bytes y) (some_same x (with_piece bytes y) is)

-- The last job with one more piece.
pub grown_parts : (at : ℕ) (bytes : List ℕ) (old new : Option Partial) → IsGrown at (length bytes) old new → option_map part_of new ≡ option_map (with_piece bytes) (option_map part_of old)
grown_parts at bytes None new is = ap (option_map part_of) is
grown_parts at bytes (Some p) None is = absurd is
grown_parts at bytes (Some p) (Some q) is = λ i. Some (record { row = is.0 i; read = is.1 i })
