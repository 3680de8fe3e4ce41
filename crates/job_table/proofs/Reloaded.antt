-- The listing of a legal table is accepted row by row, and loads the same table.
use Rattle.std.proofs.Common.{◌≡◌, ℕ, zero, suc, ◌+◌, ◌-◌, ◌*◌, ◌/◌, ◌<◌, ◌≤◌, Bool, true, false, cond, ◌&&◌, ◌==◌, ◌%◌, List, [], ◌∷◌, ◌++◌, length, take, drop, map, min, Some, None, refl, sym, ap, subst, ◌∙◌, arith, rules, append_assoc, length-append, length-drop}
use Rattle.std.specs.Prelude.{T}
use Rattle.std.proofs.lemmas.List.{take-append-drop, length-take}
use Rattle.std.proofs.lemmas.Nat.{div-mul-add, div-add-mod'}
use Rattle.std.proofs.Math.Nat.{mod-lt}
use Rattle.std.proofs.lemmas.Bool.{and_parts}
use Rattle.std.proofs.lemmas.Slice.Eq.{bytes_eq-Decides}
use Rattle.std.specs.List.{flat_map, Contains}
use Rattle.std.specs.Ordering.{nat_cmp}
use Rattle.std.specs.Cmp.{nat_cmp_total}
use Rattle.std.specs.Cmp.Lexicographic.{slice_cmp, nat_list_cmp_total}
use Rattle.std.specs.FinMap as finite
use Rattle.std.specs.FinMap.Entries.{find, is_sorted}
use Rattle.spool_types.specs.Busy.{is_of, is_busy}
use Rattle.spool_types.specs.Limits.{longest_send, greatest_number, most_queues}
use Rattle.spool_types.specs.Phases.{has_ended, is_processing}
use Rattle.spool_types.specs.State.{State, Job, Queues, Jobs, queue_at, job_at}
use Rattle.spool_types.specs.declared.rows.QueueRow.{QueueRow}
use Rattle.spool_types.specs.declared.listing.Row.{Row}
use Rattle.spool_types.specs.declared.listing.Row.TheVariants.{Head as HeadRow, Queue, Job as JobRow, Piece}
use Rattle.job_table.specs.DocumentLengths.{document_len, AreDocuments}
use Rattle.job_table.specs.Legal.{IsLegal}
use Rattle.job_table.specs.Listing.{listing, parts, job_rows}
use Rattle.job_table.specs.Loading.{Part, Progress, IsAbove, begin_loading, begun_part, with_job, with_piece, with_last, loaded, IsWhole, IsNewJob, IsPlaced, ArePlaced, loaded_all}
use Rattle.job_table.proofs.Above.{entries_above, above_front, found_there, absent_above, found_more}
use Rattle.job_table.proofs.Rows.{true_from}
use Rattle.job_table.proofs.Choice.{passing, value_found}
use Rattle.job_table.proofs.Taken.{append_none, entries_none, values_none}
use Rattle.job_table.proofs.Pieces.{take_all}
use Rattle.job_table.proofs.Changes.{not_both, at_most_highest}

-- ## Lists of rows

-- The rows turn one progress into another.
record Leads (p : Progress) (rows : List Row) (q : Progress) : Type 0 where
  placed : ArePlaced p rows
  is : loaded_all p rows ≡ q

leads_none : (p : Progress) → Leads p [] p
leads_none p = record { placed = tt; is = refl }

leads_one : (p : Progress) (row : Row) (rows : List Row) (q : Progress) → IsPlaced p row → Leads (loaded p row) rows q → Leads p (row ∷ rows) q
leads_one p row rows q placed rest = record { placed = (placed, rest.placed); is = rest.is }

leads_then : (p : Progress) (front back : List Row) (q s : Progress) → Leads p front q → Leads q back s → Leads p (front ++ back) s
leads_then p [] back q s first second = subst (λ p. Leads p back s) (sym first.is) second
leads_then p (row ∷ front) back q s first second =
    leads_one p row (front ++ back) s first.placed.0
    (leads_then (loaded p row) front back q s (record { placed = first.placed.1; is = first.is }) second)

-- ## The pieces of a job

abbrev whole_at : State → Progress
whole_at t = record { state = t; begun = true; partial = None }

-- The job with the first bytes of its document.
abbrev with_first : Job → List ℕ → Part
with_first r front = record { row = r; read = length front }

-- The job with further bytes.
first_more : (r : Job) (front bytes : List ℕ) → with_piece bytes (with_first r front) ≡ with_first r (front ++ bytes)
first_more r front bytes = ap (λ n. record { row = r; read = n }) (sym (length-append front bytes))

same_true : (m n : ℕ) → m ≡ n → (m == n) ≡ true
same_true m n e = grind (arith, rules)

less_false : (m n : ℕ) → m < n → (m == n) ≡ false
less_false m n lt = grind (arith, rules)

-- The last job is added, or remains incomplete.
put_whole : (p : Progress) (x : Part) → x.read ≡ document_len x.row → with_last p x ≡ record p { state = with_job p.state x.row; partial = None }
put_whole p x e = ap (λ b. cond b (record p { state = with_job p.state x.row; partial = None }) (record p { partial = Some x })) (same_true _ _ e)

stay_short : (p : Progress) (x : Part) → x.read < document_len x.row → with_last p x ≡ record p { partial = Some x }
stay_short p x lt = ap (λ b. cond b (record p { state = with_job p.state x.row; partial = None }) (record p { partial = Some x })) (less_false _ _ lt)

part_len : (done left size longest : ℕ) → done + left ≡ size → min longest left ≡ min (size - done) longest
part_len done left size longest is = omega arith

-- The pieces of the rest of the document: n full pieces and one more.
module _ (t : State) (r : Job) (document : List ℕ) (due : length document ≡ document_len r) (lives : has_ended r.phase ≡ false) where
  size_is : length document ≡ r.size
  size_is = due ∙ ap (λ b. cond b 0 r.size) lives

  pieces_lead : (n : ℕ) (done left : List ℕ) → done ++ left ≡ document → n * longest_send < length left → length left ≤ (n + 1) * longest_send → Leads (record { state = t; begun = true; partial = Some (with_first r done) }) (map (λ bytes. Piece r.id bytes) (parts longest_send (suc n) left)) (whole_at (with_job t r))
  pieces_lead zero done left is more few =
      let p : Progress = record { state = t; begun = true; partial = Some (with_first r done) } in
      let sum : length done + length left ≡ r.size = sym (length-append done left) ∙ ap length is ∙ size_is in
      let all : take longest_send left ≡ left = take_all longest_send left (omega arith) in
      let ends : with_last p (with_piece (take longest_send left) (with_first r done)) ≡ whole_at (with_job t r) =
      ap (with_last p) (first_more r done (take longest_send left)) ∙ (λ i. with_last p (with_first r ((ap (λ ys. done ++ ys) all ∙ is) i))) ∙ put_whole p (with_first r document) due in
      leads_one p (Piece r.id (take longest_send left)) [] (whole_at (with_job t r)) (record {
        own = refl;
        full = length-take longest_send left ∙ part_len (length done) (length left) r.size longest_send sum;
      }) (record { placed = tt; is = ends })
  pieces_lead (suc n) done left is more few =
      let p : Progress = record { state = t; begun = true; partial = Some (with_first r done) } in
      let sum : length done + length left ≡ r.size = sym (length-append done left) ∙ ap length is ∙ size_is in
      let again : (done ++ take longest_send left) ++ drop longest_send left ≡ document = append_assoc done (take longest_send left) (drop longest_send left) ∙ ap (λ ys. done ++ ys) (take-append-drop longest_send left) ∙ is in
      let rest : length (drop longest_send left) ≡ length left - longest_send = length-drop longest_send left in
      let short : length (done ++ take longest_send left) < document_len r = omega (arith, due, rest, more, ap length again, length-append (done ++ take longest_send left) (drop longest_send left)) in
      let goes_on : with_last p (with_piece (take longest_send left) (with_first r done)) ≡ record p { partial = Some (with_first r (done ++ take longest_send left)) } =
      ap (with_last p) (first_more r done (take longest_send left)) ∙ stay_short p (with_first r (done ++ take longest_send left)) short in
      leads_one p (Piece r.id (take longest_send left)) (map (λ bytes. Piece r.id bytes) (parts longest_send (suc n) (drop longest_send left))) (whole_at (with_job t r)) (record {
        own = refl;
        full = length-take longest_send left ∙ part_len (length done) (length left) r.size longest_send sum;
      })
      (subst (λ p. Leads p (map (λ bytes. Piece r.id bytes) (parts longest_send (suc n) (drop longest_send left))) (whole_at (with_job t r))) (sym goes_on)
      (pieces_lead n (done ++ take longest_send left) (drop longest_send left) again (omega (arith, rest, more)) (omega (arith, rest, few))))

-- The number of pieces of a document.
piece_count : (len : ℕ) → 1 ≤ len → (n : ℕ) × ((len + 65535) / 65536 ≡ suc n) × (n * 65536 < len) × (len ≤ (n + 1) * 65536)
piece_count len some =
    let split : (len - 1) / 65536 * 65536 + (len - 1) % 65536 ≡ len - 1 = div-add-mod' (len - 1) 65536 in
    let small : (len - 1) % 65536 < 65536 = mod-lt (len - 1) (omega arith) in
    let whole : len + 65535 ≡ suc ((len - 1) / 65536) * 65536 + (len - 1) % 65536 = omega (arith, split) in
    ((len - 1) / 65536, ap (λ m. m / 65536) whole ∙ div-mul-add (suc ((len - 1) / 65536)) 65536 ((len - 1) % 65536) small, omega (arith, split, small), omega (arith, split, small))

alive_with : (r : Job) → 1 ≤ document_len r → has_ended r.phase ≡ false
alive_with r some = either (has_ended r.phase) refl some
  where
    either : (b : Bool) → has_ended r.phase ≡ b → 1 ≤ cond b 0 r.size → b ≡ false
    either true e some = absurd (omega arith)
    either false e some = refl

-- A job and its pieces.
job_leads : (t : State) (r : Job) (document : List ℕ) → IsNewJob t r → length document ≡ document_len r → (doc : List ℕ) → doc ≡ document → Leads (whole_at t) (job_rows r doc) (whole_at (with_job t r))
job_leads t r document new due [] is = leads_one (whole_at t) (JobRow r) [] (whole_at (with_job t r)) (record { begun = refl; whole = refl; new = new }) (record {
  placed = tt;
  is = put_whole (whole_at t) (begun_part r) (ap length is ∙ due);
})
job_leads t r document new due (b ∷ bs) is =
    let doc : List ℕ = b ∷ bs in
    let some : 1 ≤ document_len r = omega (arith, due, ap length is) in
    let count = piece_count (length doc) (omega arith) in
    subst (λ m. Leads (whole_at t) (JobRow r ∷ map (λ bytes. Piece r.id bytes) (parts longest_send m doc)) (whole_at (with_job t r))) (sym count.1)
    (leads_one (whole_at t) (JobRow r) (map (λ bytes. Piece r.id bytes) (parts longest_send (suc count.0) doc)) (whole_at (with_job t r)) (record { begun = refl; whole = refl; new = new })
    (subst (λ p. Leads p (map (λ bytes. Piece r.id bytes) (parts longest_send (suc count.0) doc)) (whole_at (with_job t r))) (sym (stay_short (whole_at t) (begun_part r) some))
    (pieces_lead t r document due (alive_with r some) count.0 [] doc is count.2 count.3)))

-- ## The rows of a table

module _ (s : State) (legal : IsLegal s) (documents : ℕ → List ℕ) (fit : AreDocuments s documents) where
  abbrev without : Jobs → State
  without jobs = record s { jobs = jobs }

  -- A job of the table may follow the jobs before it.
  module _ (m : Jobs) (e : ℕ × Job) (todo : List (ℕ × Job)) (split : finite.entries m ++ e ∷ todo ≡ finite.entries s.jobs) where
    above_jobs : IsAbove nat_cmp e.0 (finite.keys m)
    above_jobs = above_front nat_cmp nat_cmp_total (finite.entries m) e todo (subst (λ es. T (is_sorted nat_cmp es)) (sym split) (finite.entries_sorted s.jobs))

    here : job_at s e.0 ≡ Some e.1
    here = finite.get-entries s.jobs e.0 ∙ ap (find nat_cmp e.0) (sym split) ∙ found_there nat_cmp nat_cmp_total (finite.entries m) e todo above_jobs

    row_id : e.1.id ≡ e.0
    row_id = (legal.jobs e.0 e.1 here).id

    no_other : (x : Job) → Contains (finite.values m) x → (is_of e.1.queue x && is_processing x.phase) ≡ true → is_processing e.1.phase ≡ true → ⊥
    no_other x there passes busy =
        let found = value_found (finite.entries m) (true_from _ (finite.entries_sorted m)) x there in
        let at_k : job_at s found.0 ≡ Some x = finite.get-entries s.jobs found.0 ∙ ap (find nat_cmp found.0) (sym split) ∙ found_more nat_cmp nat_cmp_total found.0 x (finite.entries m) (e ∷ todo) found.1 in
        let parts = and_parts (is_of e.1.queue x) (is_processing x.phase) passes in
        let same : found.0 ≡ e.0 = legal.one_processing found.0 e.0 x e.1 at_k here ((bytes_eq-Decides x.queue e.1.queue).0 parts.0) parts.1 busy in
        not_both _ x (absent_above nat_cmp nat_cmp_total (finite.entries m) e.0 above_jobs) (subst (λ k. find nat_cmp k (finite.entries m) ≡ Some x) same found.1)

    alone : is_processing e.1.phase ≡ true → is_busy (finite.values m) e.1.queue ≡ false
    alone busy = either (is_busy (finite.values m) e.1.queue) refl
      where
        either : (b : Bool) → is_busy (finite.values m) e.1.queue ≡ b → b ≡ false
        either true is =
            let one = passing (λ r. is_of e.1.queue r && is_processing r.phase) (finite.values m) is in
            absurd (no_other one.0 one.1 one.2 busy)
        either false is = refl

    new_job : IsNewJob (without m) e.1
    new_job = record {
      above = subst (λ k. IsAbove nat_cmp k (finite.keys m)) (sym row_id) above_jobs;
      given = subst (λ k. k ≤ s.highest) (sym row_id) (at_most_highest s e.0 e.1 legal here);
      queue = (legal.jobs e.0 e.1 here).queue;
      phase = (legal.jobs e.0 e.1 here).phase;
      size = (legal.jobs e.0 e.1 here).size;
      alone = alone;
    }

    one_job : Leads (whole_at (without m)) (job_rows e.1 (documents e.1.id)) (whole_at (without (finite.insert m e.0 e.1)))
    one_job = subst (λ k. Leads (whole_at (without m)) (job_rows e.1 (documents e.1.id)) (whole_at (without (finite.insert m k e.1)))) row_id
        (job_leads (without m) e.1 (documents e.1.id) new_job (ap (λ k. length (documents k)) row_id ∙ fit e.0 e.1 here) (documents e.1.id) refl)

    next_split : finite.entries (finite.insert m e.0 e.1) ++ todo ≡ finite.entries s.jobs
    next_split = ap (λ es. es ++ todo) (entries_above nat_cmp nat_cmp_total m e.0 e.1 above_jobs) ∙ append_assoc (finite.entries m) (e ∷ []) todo ∙ split

  jobs_lead : (todo : List (ℕ × Job)) (m : Jobs) → finite.entries m ++ todo ≡ finite.entries s.jobs → Leads (whole_at (without m)) (flat_map (λ r. job_rows r (documents r.id)) (map (λ e. e.1) todo)) (whole_at s)
  jobs_lead [] m split = subst (λ jobs. Leads (whole_at (without m)) [] (whole_at (without jobs))) (finite.same_entries_map m s.jobs (sym (append_none (finite.entries m)) ∙ split)) (leads_none (whole_at (without m)))
  jobs_lead (e ∷ todo) m split =
      leads_then (whole_at (without m)) (job_rows e.1 (documents e.1.id)) (flat_map (λ r. job_rows r (documents r.id)) (map (λ e. e.1) todo)) (whole_at (without (finite.insert m e.0 e.1))) (whole_at s)
      (one_job m e todo split) (jobs_lead todo (finite.insert m e.0 e.1) (next_split m e todo split))

  abbrev of_queues : Queues → State
  of_queues queues = record s { queues = queues; jobs = finite.empty }

  module _ (m : Queues) (e : List ℕ × QueueRow) (todo : List (List ℕ × QueueRow)) (split : finite.entries m ++ e ∷ todo ≡ finite.entries s.queues) where
    above_queues : IsAbove (slice_cmp nat_cmp) e.0 (finite.keys m)
    above_queues = above_front (slice_cmp nat_cmp) nat_list_cmp_total (finite.entries m) e todo (subst (λ es. T (is_sorted (slice_cmp nat_cmp) es)) (sym split) (finite.entries_sorted s.queues))

    queue_here : queue_at s e.0 ≡ Some e.1
    queue_here = finite.get-entries s.queues e.0 ∙ ap (find (slice_cmp nat_cmp) e.0) (sym split) ∙ found_there (slice_cmp nat_cmp) nat_list_cmp_total (finite.entries m) e todo above_queues

    few_before : finite.len m < most_queues
    few_before =
        let all : length (finite.entries m) + suc (length todo) ≡ finite.len s.queues = sym (length-append (finite.entries m) (e ∷ todo)) ∙ ap length split ∙ sym (finite.len-entries s.queues) in
        omega (arith, all, legal.few_queues, finite.len-entries m)

    one_queue : (rows : List Row) (q : Progress) → Leads (whole_at (of_queues (finite.insert m e.0 e.1))) rows q → Leads (whole_at (of_queues m)) (Queue e.1 ∷ rows) q
    one_queue rows q rest = leads_one (whole_at (of_queues m)) (Queue e.1) rows q (record {
      begun = refl;
      whole = refl;
      new = record {
        no_jobs = values_none nat_cmp;
        few = few_before;
        above = subst (λ k. IsAbove (slice_cmp nat_cmp) k (finite.keys m)) (sym (legal.names e.0 e.1 queue_here)) above_queues;
        in_order = legal.in_order e.0 e.1 queue_here;
      };
    }) (subst (λ k. Leads (whole_at (of_queues (finite.insert m k e.1))) rows q) (sym (legal.names e.0 e.1 queue_here)) rest)

    next_queues : finite.entries (finite.insert m e.0 e.1) ++ todo ≡ finite.entries s.queues
    next_queues = ap (λ es. es ++ todo) (entries_above (slice_cmp nat_cmp) nat_list_cmp_total m e.0 e.1 above_queues) ∙ append_assoc (finite.entries m) (e ∷ []) todo ∙ split

  queues_lead : (todo : List (List ℕ × QueueRow)) (m : Queues) → finite.entries m ++ todo ≡ finite.entries s.queues → Leads (whole_at (of_queues m)) (map (λ q. Queue q) (map (λ e. e.1) todo)) (whole_at (of_queues s.queues))
  queues_lead [] m split = subst (λ queues. Leads (whole_at (of_queues m)) [] (whole_at (of_queues queues))) (finite.same_entries_map m s.queues (sym (append_none (finite.entries m)) ∙ split)) (leads_none (whole_at (of_queues m)))
  queues_lead (e ∷ todo) m split = one_queue m e todo split (map (λ q. Queue q) (map (λ e. e.1) todo)) (whole_at (of_queues s.queues)) (queues_lead todo (finite.insert m e.0 e.1) (next_queues m e todo split))

  listing_leads : s.highest ≤ greatest_number → Leads (begin_loading s.version) (listing s documents) (whole_at s)
  listing_leads within =
      leads_one (begin_loading s.version) (HeadRow (record { highest = s.highest; moment = s.moment })) (map (λ q. Queue q) (finite.values s.queues) ++ flat_map (λ r. job_rows r (documents r.id)) (finite.values s.jobs)) (whole_at s) (record { first = refl; highest = within })
      (leads_then (whole_at (of_queues finite.empty)) (map (λ q. Queue q) (finite.values s.queues)) (flat_map (λ r. job_rows r (documents r.id)) (finite.values s.jobs)) (whole_at (of_queues s.queues)) (whole_at s)
      (queues_lead (finite.entries s.queues) finite.empty (ap (λ es. es ++ finite.entries s.queues) (entries_none (slice_cmp nat_cmp))))
      (jobs_lead (finite.entries s.jobs) finite.empty (ap (λ es. es ++ finite.entries s.jobs) (entries_none nat_cmp))))

-- The listing of a legal table loads that table.
pub listed_again : (s : State) (documents : ℕ → List ℕ) → IsLegal s → s.highest ≤ greatest_number → AreDocuments s documents → ArePlaced (begin_loading s.version) (listing s documents) × IsWhole (loaded_all (begin_loading s.version) (listing s documents)) × ((loaded_all (begin_loading s.version) (listing s documents)).state ≡ s)
listed_again s documents legal within fit =
    let leads = listing_leads s legal documents fit within in
    (leads.placed, ap (λ (p : Progress). p.partial) leads.is, ap (λ (p : Progress). p.state) leads.is)
