-- The laws of rows: a row that is read has these bytes as its spelling, a spelling is read as its row, and no row's
-- spelling begins like that of an event.
use Rattle.std.proofs.Common.{◌≡◌, ℕ, suc, ◌+◌, ◌^◌, ◌<◌, ◌≤◌, true, cond, eqb, ltb, List, [], ◌∷◌, ◌++◌, length, Option, Some, None, Result, Ok, Err, refl, sym, ap, subst, ◌∙◌, arith, inl, inr, append_assoc}
use Rattle.std.specs.Prelude.{IfOk}
use Rattle.std.specs.Int.{w8, w32, w64, to_be_bytes}
use Rattle.std.proofs.lemmas.Bool.{eqb-true, ltb-true}
use Rattle.std.proofs.lemmas.List.{append-nil, nil_from_length}
use Rattle.spool_types.specs.declared.phase.Phase.{Phase}
use Rattle.spool_types.specs.declared.phase.Phase.TheVariants.{Incoming, Waiting, Processing, Completed, Canceled, Aborted}
use Rattle.spool_types.specs.declared.event.NewQueue.{NewQueue}
use Rattle.spool_types.specs.declared.event.NewJob.{NewJob}
use Rattle.spool_types.specs.declared.event.Event.{Event}
use Rattle.spool_types.specs.declared.event.Event.TheVariants as events
use Rattle.spool_types.specs.declared.rows.QueueRow.{QueueRow}
use Rattle.spool_types.specs.declared.rows.Job.{Job as JobOf}
use Rattle.spool_types.specs.declared.listing.Head.{Head as HeadOf}
use Rattle.spool_types.specs.declared.version.Version.{Version}
use Rattle.spool_types.specs.declared.version.Version.TheVariants.{One, Two}
use Rattle.spool_types.specs.declared.listing.Row.{Row}
use Rattle.spool_types.specs.declared.listing.Row.TheVariants.{Head, Queue, Job, Piece}
use Rattle.event_codec.specs.declared.row_reading.QueueState.{QueueState}
use Rattle.event_codec.specs.declared.row_reading.JobState.{JobState}
use Rattle.spool_types.specs.Limits.{greatest_number, greatest_moment, longest_document}
use Rattle.spool_types.specs.Values.{is_queue_name, is_media_type, is_note, is_message}
use Rattle.field_codec.specs.declared.fault.CodecFault.{CodecFault}
use Rattle.field_codec.specs.declared.fault.CodecFault.TheVariants.{Kind, Length, Range}
use Rattle.event_codec.specs.Spelling.{text_code, counted_code, flag_code, queue_code, ticket_code, send_code, spelling, IsIn, IsJobNumber, IsText, IsQueue, IsJob}
use Rattle.event_codec.specs.RowSpelling.{phase_code, by_code, typed_code, attributes_code, head_code, new_queue_of, queue_state_code, queue_row_code, new_job_of, created_code, job_state_code, job_rest_code, job_row_code, row_spelling, IsTyped, IsQueueState, IsJobState, IsBy, IsOrderedQueue, HasMoments, IsPhaseOf, IsLegalJob, IsRowSpellable}
use Rattle.event_codec.specs.EventReading.{Field, ◌>>=◌, Gives, number_at, ranged_at, text_at, flag_at, filters_at, new_queue_at, ticket_at, piece_at, whole}
use Rattle.event_codec.specs.RowReading.{some_media_at, flagged_media_at, typed_at, reasons_at, attributes_at, phase_at, head_at, queue_state_at, queue_row, listed_queue_at, queue_row_at, created_at, job_state_at, some_by_at, flagged_by_at, by_at, job_row, listed_job_at, job_row_at, piece_row_at, row_fields_at, row_at, row_reading}
use Rattle.event_codec.proofs.FieldLaws.{IsBytes, bind_ok, passed_ok, done, ok_is, Takes, Takes-then, ◌⨾◌, Reads, reads_then, got, again-then, again-step, again-last, wide32, reads_ranged, ok_as}
use Rattle.event_codec.proofs.TextLaws.{reads_queue_name, reads_media, reads_note, reads_message}
use Rattle.event_codec.proofs.FilterLaws.{Anything, chosen, refused, reads_byte, AreFew, reads_few}
use Rattle.event_codec.proofs.HoldLaws.{reads_flag, reads_moment}
use Rattle.event_codec.proofs.ExitLaws.{Byte, of_byte}
use Rattle.event_codec.proofs.PhaseLaws.{IsPhaseFor, reads_phase}
use Rattle.event_codec.proofs.OrderLaws.{AreReasons, AreAttributes, reads_reasons, reads_attributes}
use Rattle.event_codec.proofs.EventLaws.{reads_job_number, reads_dropped, reads_new_queue, IsPiece, piece_code, reads_piece, behind, nested3, nested6, nested7, ticket_takes, ticket_again, send_nested, send_taken}

abbrev reads_highest : Reads (ranged_at 0 greatest_number w32) (to_be_bytes w32) (IsIn 0 greatest_number)
reads_highest = reads_ranged 0 greatest_number w32 (2 ^ 32) wide32 (omega arith)

abbrev reads_size : Reads (ranged_at 0 longest_document w32) (to_be_bytes w32) (IsIn 0 longest_document)
reads_size = reads_ranged 0 longest_document w32 (2 ^ 32) wide32 (omega arith)

-- A row that was read after its first byte.
record Spelled (version : Version) (kind : ℕ) (bytes : List ℕ) (x : Row × List ℕ) : Type 0 where
  taken : Takes (kind ∷ bytes) (row_spelling version x.0) x.1
  legal : IsRowSpellable version x.0

-- ---- heads

head_takes : (version : Version) (bytes : List ℕ) (x : Row × List ℕ) → IsBytes bytes → head_at bytes ≡ Ok x → Spelled version 0x40 bytes x
unfolding head_at
head_takes version bytes x fits e =
    let a = got (ranged_at 0 greatest_number w32) (to_be_bytes w32) (IsIn 0 greatest_number) reads_highest bytes _ x fits e in
    let b = got (ranged_at 0 greatest_moment w64) (to_be_bytes w64) (IsIn 0 greatest_moment) reads_moment a.rest _ x a.taken.rest_fits a.then in
    let h : HeadOf = record { highest = a.value; moment = b.value } in
    ok_as (Spelled version 0x40 bytes) (Head h, b.rest) x b.then (record { taken = behind 0x40 bytes (head_code h) b.rest (a.taken ⨾ b.taken); legal = record { fields = b.legal; legal = a.legal } })

head_again : (version : Version) (h : HeadOf) (rest : List ℕ) → IsRowSpellable version (Head h) → head_at (head_code h ++ rest) ≡ Ok (Head h, rest)
unfolding head_at
head_again version h rest is =
    again-step (ranged_at 0 greatest_number w32) (to_be_bytes w32) (IsIn 0 greatest_number) reads_highest h.highest (to_be_bytes w64 h.moment) rest _ _ is.legal
    (again-last (ranged_at 0 greatest_moment w64) (to_be_bytes w64) (IsIn 0 greatest_moment) reads_moment h.moment rest _ is.fields)

-- ---- queues

-- The descriptions and the state of a queue.
abbrev HasState : QueueRow → Type 0
HasState q = IsQueueState q × IsOrderedQueue q

-- The row of a queue with these fields of AddQueue, and with the state that is read.
abbrev told_at : NewQueue → List ℕ → Field QueueRow
told_at n bytes = queue_state_at bytes >>= λ state. Ok (queue_row n state.0, state.1)

abbrev IsTold : NewQueue → List ℕ → QueueRow → List ℕ → Type 0
IsTold n bytes m rest = Takes bytes (queue_state_code m) rest × ((new_queue_of m ≡ n) × HasState m)

queue_state_takes : (n : NewQueue) (bytes : List ℕ) (x : QueueState × List ℕ) → IsBytes bytes → queue_state_at bytes ≡ Ok x → IsTold n bytes (queue_row n x.0) x.1
unfolding queue_state_at
queue_state_takes n bytes x fits e =
    let a = got (text_at is_note) text_code (IsText is_note) reads_note bytes _ x fits e in
    let b = got (text_at is_note) text_code (IsText is_note) reads_note a.rest _ x a.taken.rest_fits a.then in
    let c = got flag_at flag_code Anything reads_flag b.rest _ x b.taken.rest_fits b.then in
    let d = got flag_at flag_code Anything reads_flag c.rest _ x c.taken.rest_fits c.then in
    let f = got (text_at is_message) text_code (IsText is_message) reads_message d.rest _ x d.taken.rest_fits d.then in
    let g = got reasons_at counted_code AreReasons reads_reasons f.rest _ x f.taken.rest_fits f.then in
    let h = got attributes_at attributes_code AreAttributes reads_attributes g.rest _ x g.taken.rest_fits g.then in
    let s : QueueState = record { info = a.value; location = b.value; accepting = c.value; stopped = d.value; message = f.value; reasons = g.value; attributes = h.value } in
    let q : QueueRow = queue_row n s in
    let state : IsQueueState q = record { info = a.legal; location = b.legal; message = f.legal; few_reasons = g.legal.few; reasons = g.legal.each; few_attributes = h.legal.few; attributes = h.legal.each } in
    let ordered : IsOrderedQueue q = record { reasons = g.legal.ascend; attributes = h.legal.ascend } in
    let taken = a.taken ⨾ b.taken ⨾ c.taken ⨾ d.taken ⨾ f.taken ⨾ g.taken ⨾ h.taken in
    ok_as (λ (y : QueueState × List ℕ). IsTold n bytes (queue_row n y.0) y.1) (s, h.rest) x h.then (taken, (refl, (state, ordered)))

told_takes : (n : NewQueue) (bytes : List ℕ) (m : QueueRow) (rest : List ℕ) → IsBytes bytes → told_at n bytes ≡ Ok (m, rest) → IsTold n bytes m rest
told_takes n bytes m rest fits e =
    let told = bind_ok (queue_state_at bytes) (λ state. Ok (queue_row n state.0, state.1)) (m, rest) e in
    ok_as (λ (y : QueueRow × List ℕ). IsTold n bytes y.0 y.1) (queue_row n told.value.0, told.value.1) (m, rest) told.then (queue_state_takes n bytes told.value fits told.was)

queue_state_again : (n : NewQueue) (q : QueueRow) (rest : List ℕ) → (new_queue_of q ≡ n) × HasState q → told_at n (queue_state_code q ++ rest) ≡ Ok (q, rest)
unfolding queue_state_at
queue_state_again n q rest is =
    let state = is.1.0 in
    let ordered = is.1.1 in
    let t5 = counted_code q.reasons ++ attributes_code q.attributes in
    let t4 = text_code q.message ++ t5 in
    let t3 = flag_code q.stopped ++ t4 in
    let t2 = flag_code q.accepting ++ t3 in
    let t1 = text_code q.location ++ t2 in
    let s : QueueState = record { info = q.info; location = q.location; accepting = q.accepting; stopped = q.stopped; message = q.message; reasons = q.reasons; attributes = q.attributes } in
    let again : queue_state_at (queue_state_code q ++ rest) ≡ Ok (s, rest) =
    ap (λ (t : List ℕ). queue_state_at (t ++ rest)) (nested7 (text_code q.info) (text_code q.location) (flag_code q.accepting) (flag_code q.stopped) (text_code q.message) (counted_code q.reasons) (attributes_code q.attributes)) ∙
    again-step (text_at is_note) text_code (IsText is_note) reads_note q.info t1 rest _ _ state.info
    (again-step (text_at is_note) text_code (IsText is_note) reads_note q.location t2 rest _ _ state.location
    (again-step flag_at flag_code Anything reads_flag q.accepting t3 rest _ _ tt
    (again-step flag_at flag_code Anything reads_flag q.stopped t4 rest _ _ tt
    (again-step (text_at is_message) text_code (IsText is_message) reads_message q.message t5 rest _ _ state.message
    (again-step reasons_at counted_code AreReasons reads_reasons q.reasons (attributes_code q.attributes) rest _ _ (record { few = state.few_reasons; each = state.reasons; ascend = ordered.reasons })
    (again-last attributes_at attributes_code AreAttributes reads_attributes q.attributes rest _ (record { few = state.few_attributes; each = state.attributes; ascend = ordered.attributes }))))))) in
    ap (λ (m : NewQueue). told_at m (queue_state_code q ++ rest)) (sym is.0) ∙
    ap (λ r. r >>= λ state. Ok (queue_row (new_queue_of q) state.0, state.1)) again

abbrev IsListedQueue : QueueRow → Type 0
IsListedQueue q = IsQueue (new_queue_of q) × HasState q

reads_listed_queue : Reads listed_queue_at queue_row_code IsListedQueue
unfolding listed_queue_at
reads_listed_queue = reads_then new_queue_at queue_code IsQueue told_at queue_state_code HasState new_queue_of reads_new_queue (λ n. record { takes = told_takes n; again = queue_state_again n })

queue_row_takes : (version : Version) (bytes : List ℕ) (x : Row × List ℕ) → IsBytes bytes → queue_row_at bytes ≡ Ok x → Spelled version 0x41 bytes x
unfolding queue_row_at
queue_row_takes version bytes x fits e =
    let a = got listed_queue_at queue_row_code IsListedQueue reads_listed_queue bytes _ x fits e in
    let is : IsRowSpellable version (Queue a.value) = record { fields = record { added = a.legal.0; state = a.legal.1.0 }; legal = a.legal.1.1 } in
    ok_as (Spelled version 0x41 bytes) (Queue a.value, a.rest) x a.then (record { taken = behind 0x41 bytes (queue_row_code a.value) a.rest a.taken; legal = is })

queue_row_again : (version : Version) (q : QueueRow) (rest : List ℕ) → IsRowSpellable version (Queue q) → queue_row_at (queue_row_code q ++ rest) ≡ Ok (Queue q, rest)
unfolding queue_row_at
queue_row_again version q rest is = again-last listed_queue_at queue_row_code IsListedQueue reads_listed_queue q rest _ (is.fields.added, (is.fields.state, is.legal))

-- ---- jobs: the fields of Create

created_takes : (bytes : List ℕ) (n : NewJob) (rest : List ℕ) → IsBytes bytes → created_at bytes ≡ Ok (n, rest) → Takes bytes (created_code n) rest × IsJob n
unfolding created_at
created_takes bytes n rest fits e =
    let a = got (ranged_at 1 greatest_number w32) (to_be_bytes w32) IsJobNumber reads_job_number bytes _ (n, rest) fits e in
    let b = got (text_at is_queue_name) text_code (IsText is_queue_name) reads_queue_name a.rest _ (n, rest) a.taken.rest_fits a.then in
    let t = ticket_takes b.value a.value b.rest n rest b.taken.rest_fits b.then in
    let number : Takes bytes (to_be_bytes w32 n.job) a.rest = subst (λ (j : ℕ). Takes bytes (to_be_bytes w32 j) a.rest) (sym t.job_is) a.taken in
    let queue : Takes a.rest (text_code n.queue) b.rest = subst (λ (q : List ℕ). Takes a.rest (text_code q) b.rest) (sym t.queue_is) b.taken in
    (number ⨾ queue ⨾ t.taken, t.legal b.legal a.legal)

created_again : (n : NewJob) (rest : List ℕ) → IsJob n → created_at (created_code n ++ rest) ≡ Ok (n, rest)
unfolding created_at
created_again n rest h =
    ap (λ (t : List ℕ). created_at (t ++ rest)) (nested3 (to_be_bytes w32 n.job) (text_code n.queue) (ticket_code n)) ∙
    again-step (ranged_at 1 greatest_number w32) (to_be_bytes w32) IsJobNumber reads_job_number n.job (text_code n.queue ++ ticket_code n) rest _ _ h.job
    (again-step (text_at is_queue_name) text_code (IsText is_queue_name) reads_queue_name n.queue (ticket_code n) rest (λ queue. ticket_at queue.0 n.job queue.1) _ h.queue
    (ticket_again n rest h))

reads_created : Reads created_at created_code IsJob
reads_created = record { takes = created_takes; again = created_again }

-- ---- their media types

record Typed (bytes : List ℕ) (o : Option (List ℕ)) (rest : List ℕ) : Type 0 where
  taken : Takes bytes (typed_code o) rest
  legal : IsTyped o

typed_as : (bytes : List ℕ) (y : Option (List ℕ)) (after : List ℕ) (o : Option (List ℕ)) (rest : List ℕ) → done {A = Option (List ℕ) × List ℕ} (y, after) ≡ Ok (o, rest) → Typed bytes y after → Typed bytes o rest
typed_as bytes y after o rest same this = ok_as (λ (z : Option (List ℕ) × List ℕ). Typed bytes z.0 z.1) (y, after) (o, rest) same this

some_media_take : (bytes after : List ℕ) (o : Option (List ℕ)) (rest : List ℕ) → Takes bytes (to_be_bytes w8 1) after → some_media_at after ≡ Ok (o, rest) → Typed bytes o rest
unfolding some_media_at
some_media_take bytes after o rest t e =
    let a = got (text_at is_media_type) text_code (IsText is_media_type) reads_media after (λ media. Ok (Some media.0, media.1)) (o, rest) t.rest_fits e in
    typed_as bytes (Some a.value) a.rest o rest a.then (record { taken = Takes-then bytes (to_be_bytes w8 1) after (text_code a.value) a.rest t a.taken; legal = a.legal })

flagged_media_take : (bytes : List ℕ) (flag : ℕ) (after : List ℕ) (o : Option (List ℕ)) (rest : List ℕ) → Takes bytes (to_be_bytes w8 flag) after → flagged_media_at flag after ≡ Ok (o, rest) → Typed bytes o rest
unfolding flagged_media_at
flagged_media_take bytes flag after o rest t e =
    elim (chosen (eqb flag 0) (Ok (None, after)) _ (Ok (o, rest)) e) [
      | inl h ↦ typed_as bytes None after o rest h.1 (record { taken = of_byte bytes flag 0 after t h.0; legal = tt })
      | inr h ↦ elim (chosen (eqb flag 1) (some_media_at after) _ (Ok (o, rest)) h.1) [
        | inl i ↦ some_media_take bytes after o rest (of_byte bytes flag 1 after t i.0) i.1
        | inr i ↦ absurd (refused Range (o, rest) i.1)
      ]
    ]

typed_takes : (bytes : List ℕ) (o : Option (List ℕ)) (rest : List ℕ) → IsBytes bytes → typed_at bytes ≡ Ok (o, rest) → Takes bytes (typed_code o) rest × IsTyped o
unfolding typed_at
typed_takes bytes o rest fits e =
    let a = got (number_at w8) (to_be_bytes w8) Byte reads_byte bytes (λ flag. flagged_media_at flag.0 flag.1) (o, rest) fits e in
    let m = flagged_media_take bytes a.value a.rest o rest a.taken a.then in
    (m.taken, m.legal)

typed_again : (o : Option (List ℕ)) (rest : List ℕ) → IsTyped o → typed_at (typed_code o ++ rest) ≡ Ok (o, rest)
unfolding typed_at flagged_media_at some_media_at
typed_again None rest h = again-last (number_at w8) (to_be_bytes w8) Byte reads_byte 0 rest (λ flag. flagged_media_at flag.0 flag.1) (omega arith)
typed_again (Some media) rest h =
    again-then (number_at w8) (to_be_bytes w8) Byte reads_byte 1 (text_code media) rest (λ flag. flagged_media_at flag.0 flag.1) (omega arith)
    ∙ again-last (text_at is_media_type) text_code (IsText is_media_type) reads_media media rest (λ m. Ok (Some m.0, m.1)) h

reads_typed : Reads typed_at typed_code IsTyped
reads_typed = record { takes = typed_takes; again = typed_again }

-- ---- the deadlines of their starts

record Due (version : Version) (bytes : List ℕ) (o : Option ℕ) (rest : List ℕ) : Type 0 where
  taken : Takes bytes (by_code version o) rest
  legal : IsBy version o

due_as : (version : Version) (bytes : List ℕ) (y : Option ℕ) (after : List ℕ) (o : Option ℕ) (rest : List ℕ) → done {A = Option ℕ × List ℕ} (y, after) ≡ Ok (o, rest) → Due version bytes y after → Due version bytes o rest
due_as version bytes y after o rest same this = ok_as (λ (z : Option ℕ × List ℕ). Due version bytes z.0 z.1) (y, after) (o, rest) same this

some_by_take : (bytes after : List ℕ) (o : Option ℕ) (rest : List ℕ) → Takes bytes (to_be_bytes w8 1) after → some_by_at after ≡ Ok (o, rest) → Due Two bytes o rest
unfolding some_by_at
some_by_take bytes after o rest t e =
    let a = got (ranged_at 0 greatest_moment w64) (to_be_bytes w64) (IsIn 0 greatest_moment) reads_moment after (λ moment. Ok (Some moment.0, moment.1)) (o, rest) t.rest_fits e in
    due_as Two bytes (Some a.value) a.rest o rest a.then (record { taken = Takes-then bytes (to_be_bytes w8 1) after (to_be_bytes w64 a.value) a.rest t a.taken; legal = a.legal })

flagged_by_take : (bytes : List ℕ) (flag : ℕ) (after : List ℕ) (o : Option ℕ) (rest : List ℕ) → Takes bytes (to_be_bytes w8 flag) after → flagged_by_at flag after ≡ Ok (o, rest) → Due Two bytes o rest
unfolding flagged_by_at
flagged_by_take bytes flag after o rest t e =
    elim (chosen (eqb flag 0) (Ok (None, after)) _ (Ok (o, rest)) e) [
      | inl h ↦ due_as Two bytes None after o rest h.1 (record { taken = of_byte bytes flag 0 after t h.0; legal = tt })
      | inr h ↦ elim (chosen (eqb flag 1) (some_by_at after) _ (Ok (o, rest)) h.1) [
        | inl i ↦ some_by_take bytes after o rest (of_byte bytes flag 1 after t i.0) i.1
        | inr i ↦ absurd (refused Range (o, rest) i.1)
      ]
    ]

by_takes : (version : Version) (bytes : List ℕ) (o : Option ℕ) (rest : List ℕ) → IsBytes bytes → by_at version bytes ≡ Ok (o, rest) → Takes bytes (by_code version o) rest × IsBy version o
unfolding by_at
by_takes One bytes o rest fits e =
    let m = due_as One bytes None bytes o rest e (record { taken = record { parts = refl; rest_fits = fits }; legal = tt }) in
    (m.taken, m.legal)
by_takes Two bytes o rest fits e =
    let a = got (number_at w8) (to_be_bytes w8) Byte reads_byte bytes (λ flag. flagged_by_at flag.0 flag.1) (o, rest) fits e in
    let m = flagged_by_take bytes a.value a.rest o rest a.taken a.then in
    (m.taken, m.legal)

by_again : (version : Version) (o : Option ℕ) (rest : List ℕ) → IsBy version o → by_at version (by_code version o ++ rest) ≡ Ok (o, rest)
unfolding by_at flagged_by_at some_by_at
by_again One None rest h = refl
by_again One (Some m) rest h = elim h [ ]
by_again Two None rest h = again-last (number_at w8) (to_be_bytes w8) Byte reads_byte 0 rest (λ flag. flagged_by_at flag.0 flag.1) (omega arith)
by_again Two (Some m) rest h =
    again-then (number_at w8) (to_be_bytes w8) Byte reads_byte 1 (to_be_bytes w64 m) rest (λ flag. flagged_by_at flag.0 flag.1) (omega arith)
    ∙ again-last (ranged_at 0 greatest_moment w64) (to_be_bytes w64) (IsIn 0 greatest_moment) reads_moment m rest (λ m. Ok (Some m.0, m.1)) h

-- ---- the state of a job

moments_of : (a n : ℕ) (p : Phase) → IsPhaseFor a n p → HasMoments p
moments_of a n (Incoming hold) h = h
moments_of a n (Waiting hold m first) h = h
moments_of a n (Processing attempt stage stages) h = tt
moments_of a n Completed h = tt
moments_of a n Canceled h = tt
moments_of a n (Aborted reason) h = tt

phase_of : (r : JobOf) (p : Phase) → IsPhaseFor r.attempts (length r.filters + 1) p → IsPhaseOf r p
phase_of r (Incoming hold) h = tt
phase_of r (Waiting hold m first) h = tt
phase_of r (Processing attempt stage stages) h = record { newest = h.newest; stage_is = h.stage_is; of_all = h.all }
phase_of r Completed h = tt
phase_of r Canceled h = tt
phase_of r (Aborted reason) h = tt

phase_for : (r : JobOf) (p : Phase) → HasMoments p → IsPhaseOf r p → IsPhaseFor r.attempts (length r.filters + 1) p
phase_for r (Incoming hold) m h = m
phase_for r (Waiting hold moment first) m h = m
phase_for r (Processing attempt stage stages) m h = record { newest = h.newest; stage_is = h.stage_is; all = h.of_all }
phase_for r Completed m h = tt
phase_for r Canceled m h = tt
phase_for r (Aborted reason) m h = tt

all_wide : (n : ℕ) → n < 2 ^ 32 → IsIn 0 4294967295 n
all_wide n lt = record { at_least = omega arith; at_most = omega (arith, lt) }

-- The state of a job.
abbrev HasBecome : Version → JobOf → Type 0
HasBecome version r = (IsJobState r × IsLegalJob r) × IsBy version r.by

-- The row of a job with these fields of Create, and with the state that is read.
abbrev become_at : Version → NewJob → List ℕ → Field JobOf
become_at version n bytes = job_state_at bytes >>= λ state. by_at version state.1 >>= λ by. Ok (job_row n state.0 by.0, by.1)

abbrev IsStateOf : NewJob → List ℕ → JobOf → List ℕ → Type 0
IsStateOf n bytes m rest = Takes bytes (job_state_code m) rest × ((new_job_of m ≡ n) × (IsJobState m × IsLegalJob m))

abbrev IsBecome : Version → NewJob → List ℕ → JobOf → List ℕ → Type 0
IsBecome version n bytes m rest = Takes bytes (job_rest_code version m) rest × ((new_job_of m ≡ n) × HasBecome version m)

job_state_takes : (n : NewJob) (by : Option ℕ) (bytes : List ℕ) (x : JobState × List ℕ) → IsBytes bytes → job_state_at bytes ≡ Ok x → IsStateOf n bytes (job_row n x.0 by) x.1
unfolding job_state_at
job_state_takes n by bytes x fits e =
    let a = got typed_at typed_code IsTyped reads_typed bytes _ x fits e in
    let b = got filters_at counted_code AreFew reads_few a.rest _ x a.taken.rest_fits a.then in
    let c = got (number_at w32) (to_be_bytes w32) (λ k. k < 2 ^ 32) reads_dropped b.rest _ x b.taken.rest_fits b.then in
    let d = got (number_at w32) (to_be_bytes w32) (λ k. k < 2 ^ 32) reads_dropped c.rest _ x c.taken.rest_fits c.then in
    let f = got (ranged_at 0 longest_document w32) (to_be_bytes w32) (IsIn 0 longest_document) reads_size d.rest _ x d.taken.rest_fits d.then in
    let g = got (phase_at c.value (length b.value + 1)) phase_code (IsPhaseFor c.value (length b.value + 1)) (reads_phase c.value (length b.value + 1)) f.rest _ x f.taken.rest_fits f.then in
    let s : JobState = record { media = a.value; filters = b.value; attempts = c.value; pages = d.value; size = f.value; phase = g.value } in
    let r : JobOf = job_row n s by in
    let state : IsJobState r = record { media = a.legal; filters = b.legal; attempts = all_wide c.value c.legal; pages = all_wide d.value d.legal; phase = moments_of c.value (length b.value + 1) g.value g.legal } in
    let legal : IsLegalJob r = record { size = f.legal; phase = phase_of r g.value g.legal } in
    let taken = a.taken ⨾ b.taken ⨾ c.taken ⨾ d.taken ⨾ f.taken ⨾ g.taken in
    ok_as (λ (y : JobState × List ℕ). IsStateOf n bytes (job_row n y.0 by) y.1) (s, g.rest) x g.then (taken, (refl, (state, legal)))

become_takes : (version : Version) (n : NewJob) (bytes : List ℕ) (m : JobOf) (rest : List ℕ) → IsBytes bytes → become_at version n bytes ≡ Ok (m, rest) → IsBecome version n bytes m rest
become_takes version n bytes m rest fits e =
    let told = bind_ok (job_state_at bytes) (λ state. by_at version state.1 >>= λ by. Ok (job_row n state.0 by.0, by.1)) (m, rest) e in
    let due = bind_ok (by_at version told.value.1) (λ by. Ok (job_row n told.value.0 by.0, by.1)) (m, rest) told.then in
    let state = job_state_takes n due.value.0 bytes told.value fits told.was in
    let by = by_takes version told.value.1 due.value.0 due.value.1 state.0.rest_fits due.was in
    ok_as (λ (y : JobOf × List ℕ). IsBecome version n bytes y.0 y.1) (job_row n told.value.0 due.value.0, due.value.1) (m, rest) due.then
    (state.0 ⨾ by.0, (state.1.0, (state.1.1, by.1)))

job_state_again : (r : JobOf) (rest : List ℕ) → IsJobState r → IsLegalJob r → job_state_at (job_state_code r ++ rest) ≡ Ok (record { media = r.media; filters = r.filters; attempts = r.attempts; pages = r.pages; size = r.size; phase = r.phase }, rest)
unfolding job_state_at
job_state_again r rest state legal =
    let t4 = to_be_bytes w32 r.size ++ phase_code r.phase in
    let t3 = to_be_bytes w32 r.pages ++ t4 in
    let t2 = to_be_bytes w32 r.attempts ++ t3 in
    let t1 = counted_code r.filters ++ t2 in
    ap (λ (t : List ℕ). job_state_at (t ++ rest)) (nested6 (typed_code r.media) (counted_code r.filters) (to_be_bytes w32 r.attempts) (to_be_bytes w32 r.pages) (to_be_bytes w32 r.size) (phase_code r.phase)) ∙
    again-step typed_at typed_code IsTyped reads_typed r.media t1 rest _ _ state.media
    (again-step filters_at counted_code AreFew reads_few r.filters t2 rest _ _ state.filters
    (again-step (number_at w32) (to_be_bytes w32) (λ k. k < 2 ^ 32) reads_dropped r.attempts t3 rest _ _ (omega (arith, state.attempts.at_most))
    (again-step (number_at w32) (to_be_bytes w32) (λ k. k < 2 ^ 32) reads_dropped r.pages t4 rest _ _ (omega (arith, state.pages.at_most))
    (again-step (ranged_at 0 longest_document w32) (to_be_bytes w32) (IsIn 0 longest_document) reads_size r.size (phase_code r.phase) rest _ _ legal.size
    (again-last (phase_at r.attempts (length r.filters + 1)) phase_code (IsPhaseFor r.attempts (length r.filters + 1)) (reads_phase r.attempts (length r.filters + 1)) r.phase rest _ (phase_for r r.phase state.phase legal.phase))))))

become_again : (version : Version) (n : NewJob) (r : JobOf) (rest : List ℕ) → (new_job_of r ≡ n) × HasBecome version r → become_at version n (job_rest_code version r ++ rest) ≡ Ok (r, rest)
become_again version n r rest is =
    let tail = by_code version r.by ++ rest in
    ap (λ (m : NewJob). become_at version m (job_rest_code version r ++ rest)) (sym is.0) ∙
    ap (λ (t : List ℕ). become_at version (new_job_of r) t) (append_assoc (job_state_code r) (by_code version r.by) rest) ∙
    ap (λ field. field >>= λ state. by_at version state.1 >>= λ by. Ok (job_row (new_job_of r) state.0 by.0, by.1)) (job_state_again r tail is.1.0.0 is.1.0.1) ∙
    ap (λ field. field >>= λ by. Ok (record r { by = by.0 }, by.1)) (by_again version r.by rest is.1.1)

abbrev IsListedJob : Version → JobOf → Type 0
IsListedJob version r = IsJob (new_job_of r) × HasBecome version r

reads_listed_job : (version : Version) → Reads (listed_job_at version) (job_row_code version) (IsListedJob version)
unfolding listed_job_at
reads_listed_job version = reads_then created_at created_code IsJob (become_at version) (job_rest_code version) (HasBecome version) new_job_of reads_created (λ n. record { takes = become_takes version n; again = become_again version n })

job_row_takes : (version : Version) (bytes : List ℕ) (x : Row × List ℕ) → IsBytes bytes → job_row_at version bytes ≡ Ok x → Spelled version 0x42 bytes x
unfolding job_row_at
job_row_takes version bytes x fits e =
    let a = got (listed_job_at version) (job_row_code version) (IsListedJob version) (reads_listed_job version) bytes _ x fits e in
    let is : IsRowSpellable version (Job a.value) = record { fields = record { created = a.legal.0; state = a.legal.1.0.0; by = a.legal.1.1 }; legal = a.legal.1.0.1 } in
    ok_as (Spelled version 0x42 bytes) (Job a.value, a.rest) x a.then (record { taken = behind 0x42 bytes (job_row_code version a.value) a.rest a.taken; legal = is })

job_row_again : (version : Version) (r : JobOf) (rest : List ℕ) → IsRowSpellable version (Job r) → job_row_at version (job_row_code version r ++ rest) ≡ Ok (Job r, rest)
unfolding job_row_at
job_row_again version r rest is = again-last (listed_job_at version) (job_row_code version) (IsListedJob version) (reads_listed_job version) r rest _ (is.fields.created, ((is.fields.state, is.legal), is.fields.by))

-- ---- pieces

piece_row_takes : (version : Version) (bytes : List ℕ) (x : Row × List ℕ) → IsBytes bytes → piece_row_at bytes ≡ Ok x → Spelled version 0x43 bytes x
unfolding piece_row_at
piece_row_takes version bytes x fits e =
    let a = got (ranged_at 1 greatest_number w32) (to_be_bytes w32) IsJobNumber reads_job_number bytes _ x fits e in
    let b = got (piece_at 1) piece_code (IsPiece 1) (reads_piece 1) a.rest _ x a.taken.rest_fits a.then in
    let is : IsRowSpellable version (Piece a.value b.value) = record { fields = record { job = a.legal; length = b.legal.at_most }; legal = b.legal.at_least } in
    ok_as (Spelled version 0x43 bytes) (Piece a.value b.value, b.rest) x b.then (record { taken = behind 0x43 bytes (send_code a.value b.value) b.rest (send_taken a.value b.value bytes a.rest b.rest a.taken b.taken); legal = is })

piece_row_again : (version : Version) (j : ℕ) (bytes rest : List ℕ) → IsRowSpellable version (Piece j bytes) → piece_row_at (send_code j bytes ++ rest) ≡ Ok (Piece j bytes, rest)
unfolding piece_row_at
piece_row_again version j bytes rest is =
    ap (λ (t : List ℕ). piece_row_at (t ++ rest)) (send_nested j bytes) ∙
    again-step (ranged_at 1 greatest_number w32) (to_be_bytes w32) IsJobNumber reads_job_number j (piece_code bytes) rest _ _ is.fields.job
    (again-last (piece_at 1) piece_code (IsPiece 1) (reads_piece 1) bytes rest _ (record { at_least = is.legal; at_most = is.fields.length }))

-- ---- rows

-- The fields of one kind, or else of the other kinds.
by_kind : (version : Version) (kind n : ℕ) (read : List ℕ → Field Row) (others : Field Row) (bytes : List ℕ) (x : Row × List ℕ) → (read bytes ≡ Ok x → Spelled version n bytes x) → (others ≡ Ok x → Spelled version kind bytes x)
    → cond (eqb kind n) (read bytes) others ≡ Ok x → Spelled version kind bytes x
by_kind version kind n read others bytes x this other e =
    elim (chosen (eqb kind n) (read bytes) others (Ok x) e) [
      | inl h ↦ subst (λ (k : ℕ). Spelled version k bytes x) (sym (eqb-true kind n h.0)) (this h.1)
      | inr h ↦ other h.1
    ]

row_fields_take : (version : Version) (kind : ℕ) (bytes : List ℕ) (x : Row × List ℕ) → IsBytes bytes → row_fields_at version kind bytes ≡ Ok x → Spelled version kind bytes x
unfolding row_fields_at
row_fields_take version kind bytes x fits e =
    by_kind version kind 0x40 head_at _ bytes x (head_takes version bytes x fits)
    (by_kind version kind 0x41 queue_row_at _ bytes x (queue_row_takes version bytes x fits)
    (by_kind version kind 0x42 (job_row_at version) _ bytes x (job_row_takes version bytes x fits)
    (by_kind version kind 0x43 piece_row_at _ bytes x (piece_row_takes version bytes x fits)
    (λ refusal. absurd (refused Kind x refusal))))) e

record Found (version : Version) (bytes : List ℕ) (x : Row × List ℕ) : Type 0 where
  taken : Takes bytes (row_spelling version x.0) x.1
  legal : IsRowSpellable version x.0

row_takes : (version : Version) (bytes : List ℕ) (x : Row × List ℕ) → IsBytes bytes → row_at version bytes ≡ Ok x → Found version bytes x
unfolding row_at
row_takes version [] x fits e = absurd (refused Length x e)
row_takes version (kind ∷ bytes) x fits e =
    let s = row_fields_take version kind bytes x (λ i. fits (suc i)) e in
    record { taken = s.taken; legal = s.legal }

pub row_again : (version : Version) (row : Row) (rest : List ℕ) → IsRowSpellable version row → row_at version (row_spelling version row ++ rest) ≡ Ok (row, rest)
unfolding row_at row_fields_at
row_again version (Head head) rest is = head_again version head rest is
row_again version (Queue q) rest is = queue_row_again version q rest is
row_again version (Job r) rest is = job_row_again version r rest is
row_again version (Piece j bytes) rest is = piece_row_again version j bytes rest is

row_reading_takes : (version : Version) (bytes : List ℕ) (row : Row) → IsBytes bytes → row_reading version bytes ≡ Ok row → IsRowSpellable version row × (bytes ≡ row_spelling version row)
unfolding whole
row_reading_takes version bytes row fits h =
    let s = bind_ok (row_at version bytes) (λ x. cond (eqb (length x.1) 0) (Ok x.0) (Err Length)) row h in
    let f = row_takes version bytes s.value fits s.was in
    let g = passed_ok (eqb (length s.value.1) 0) Length s.value.0 row s.then in
    let nothing : s.value.1 ≡ [] = nil_from_length s.value.1 (eqb-true _ _ g.0) in
    let all : bytes ≡ row_spelling version s.value.0 = f.taken.parts ∙ ap (λ (r : List ℕ). row_spelling version s.value.0 ++ r) nothing ∙ append-nil (row_spelling version s.value.0) in
    subst (λ (v : Row). IsRowSpellable version v × (bytes ≡ row_spelling version v)) g.1 (f.legal, all)

pub row_reading_again : (version : Version) (row : Row) → IsRowSpellable version row → row_reading version (row_spelling version row) ≡ Ok row
unfolding whole
row_reading_again version row h =
    ap (λ (t : List ℕ). row_reading version t) (sym (append-nil (row_spelling version row))) ∙ ap whole (row_again version row [] h)

pub one_row : (version : Version) (a b : Row) (rest : List ℕ) → IsRowSpellable version a → IsRowSpellable version b → row_spelling version a ++ rest ≡ row_spelling version b → (a ≡ b) × (rest ≡ [])
one_row version a b rest h i same =
    let both : row_at version (row_spelling version a ++ rest) ≡ row_at version (row_spelling version b ++ []) = ap (row_at version) (same ∙ sym (append-nil (row_spelling version b))) in
    let pair = ok_is (a, rest) (b, []) (sym (row_again version a rest h) ∙ both ∙ row_again version b [] i) in
    (ap (λ (x : Row × List ℕ). x.0) pair, ap (λ (x : Row × List ℕ). x.1) pair)

pub is_found_row : (version : Version) (bytes : List ℕ) (r : Result Row CodecFault) → IsBytes bytes → Gives (λ row. row) r (row_reading version bytes) → IfOk r (λ row. IsRowSpellable version row × (bytes ≡ row_spelling version row))
is_found_row version bytes (Ok row) fits given = row_reading_takes version bytes row fits given
is_found_row version bytes (Err f) fits given = tt

-- ---- rows are no events

abbrev kind_of : List ℕ → ℕ
kind_of [] = 0
kind_of (kind ∷ rest) = kind

kind_below : (n : ℕ) → ltb n 0x40 ≡ true → n < 0x40
kind_below n e = ltb-true n 0x40 e

event_kind : (e : Event) (rest : List ℕ) → kind_of (spelling e ++ rest) < 0x40
event_kind events.Reopen rest = kind_below 0x0F refl
event_kind e rest = kind_below (kind_of (spelling e ++ rest)) refl

row_kind : (version : Version) (row : Row) (rest : List ℕ) → 0x40 ≤ kind_of (row_spelling version row ++ rest)
row_kind version (Head head) rest = omega arith
row_kind version (Queue q) rest = omega arith
row_kind version (Job r) rest = omega arith
row_kind version (Piece j bytes) rest = omega arith

pub apart : (version : Version) (row : Row) (e : Event) (some more : List ℕ) → row_spelling version row ++ some ≡ spelling e ++ more → ⊥
apart version row e some more same = absurd (omega (arith, event_kind e more, row_kind version row some, ap kind_of same))
