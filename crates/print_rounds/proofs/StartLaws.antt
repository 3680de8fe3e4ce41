-- If nothing failed, the starts of jobs are those of Script.
use Rattle.std.proofs.Common.{◌≡◌, ℕ, List, [], ◌∷◌, ◌++◌, length, map, get_or, Option, Some, None, Ok, Err, refl, sym, ap, subst, ◌∙◌, append_assoc, append-nil}
use Rattle.std.specs.FinMap as finite
use Rattle.std.proofs.Math.ListN.{get_or-map}
use Rattle.std.proofs.lemmas.List.{length-map}
use Rattle.spool_disk.specs.Disk.{DiskView}
use Rattle.spool_types.specs.declared.event.Event.TheVariants.{Start}
use Rattle.spool_types.specs.declared.rows.QueueRow.{QueueRow}
use Rattle.spool_types.specs.State.{State, Job, job_at}
use Rattle.job_table.specs.EventChanges.{change_found}
use Rattle.job_table.specs.Attempts.{next_of, started}
use Rattle.job_table.specs.Step.{refusal_of}
use Rattle.spool_core.specs.OpenSpools.{OpenSpool}
use Rattle.print_rounds.specs.Counts.{start_events, starting_events}
use Rattle.print_rounds.specs.RunStates.{Answer, Starting, IsStarting, IsStartingOf, AreStartings}
use Rattle.print_rounds.specs.Faultless.{IsBegun, AllBegun}
use Rattle.print_rounds.specs.Happenings.{HaveHappened, happenings_of}
use Rattle.print_rounds.specs.declared.happenings.Happening.{Happening}
use Rattle.print_rounds.specs.RoundScript.{Play, plays, play_start, start_of}
use Rattle.print_rounds.proofs.ReportLaws.{done_state, fault_state}

module _ {D : Type 0} (device : DiskView D) where
  one_start : (p : Play) (old : OpenSpool D) (o : Option ℕ) (answer : Option Answer) (new : OpenSpool D) → IsStartingOf device old o answer new → IsBegun answer → start_of (record p { state = old.state }) o ≡ record p { state = new.state; events = p.events ++ start_events o answer }
  one_start p old None answer new (none, same) begun =
      ap (λ (s : OpenSpool D). record p { state = s.state }) (sym same)
      ∙ ap (λ es. record p { state = new.state; events = es }) (sym (append-nil p.events))
  one_start p old (Some j) None new is begun = absurd is
  one_start p old (Some j) (Some (Err fault)) new is begun = absurd begun
  one_start p old (Some j) (Some (Ok reply)) new (accepted, is) begun =
      ap (λ s. record p { state = s; events = p.events ++ Start j ∷ [] }) (done_state old.state (Start j) (refusal_of old.state (Start j)) new.state reply refl accepted is.cause.step).0

  pub starts_played : (old : OpenSpool D) (ts : List (Starting D)) (new : OpenSpool D) → AreStartings device old ts new → (p : Play) → AllBegun ts → plays play_start (record p { state = old.state }) (map (λ t. t.queue) ts) ≡ record p { state = new.state; events = p.events ++ starting_events old ts }
  starts_played old [] new same p begun =
      ap (λ (s : OpenSpool D). record p { state = s.state }) (sym same)
      ∙ ap (λ es. record p { state = new.state; events = es }) (sym (append-nil p.events))
  starts_played old (t ∷ ts) new (start, starts) p (first, others) =
      let es = start_events (next_of old.state t.queue) t.answer in
      ap (λ q. plays play_start q (map (λ t. t.queue) ts)) (one_start p old (next_of old.state t.queue) t.answer t.next start first)
      ∙ starts_played t.next ts new starts (record p { events = p.events ++ es }) others
      ∙ ap (λ more. record p { state = new.state; events = more }) (append_assoc p.events es (starting_events t.next ts))

-- A start changes no queue.
started_keys : (s : State) (j : ℕ) (o : Option Job) → finite.keys (change_found s j started o).queues ≡ finite.keys s.queues
started_keys s j None = refl
started_keys s j (Some r) = refl

module _ {D : Type 0} (device : DiskView D) where
  one_keys : (old : OpenSpool D) (o : Option ℕ) (answer : Option Answer) (new : OpenSpool D) → IsStartingOf device old o answer new → finite.keys new.state.queues ≡ finite.keys old.state.queues
  one_keys old None answer new (none, same) = ap (λ (s : OpenSpool D). finite.keys s.state.queues) same
  one_keys old (Some j) None new is = absurd is
  one_keys old (Some j) (Some (Ok reply)) new (accepted, is) =
      ap (λ (s : State). finite.keys s.queues) (sym (done_state old.state (Start j) (refusal_of old.state (Start j)) new.state reply refl accepted is.cause.step).0)
      ∙ started_keys old.state j (job_at old.state j)
  one_keys old (Some j) (Some (Err fault)) new (accepted, is) = ap (λ (s : State). finite.keys s.queues) (fault_state device old (Start j) fault new is.cause)

  -- The starts change no queue.
  pub starts_keys : (old : OpenSpool D) (ts : List (Starting D)) (new : OpenSpool D) → AreStartings device old ts new → finite.keys new.state.queues ≡ finite.keys old.state.queues
  starts_keys old [] new same = ap (λ (s : OpenSpool D). finite.keys s.state.queues) same
  starts_keys old (t ∷ ts) new (start, starts) = starts_keys t.next ts new starts ∙ one_keys old (next_of old.state t.queue) t.answer t.next start

-- The name of the queue at a position.
pub name_at : (rows : List QueueRow) (names : List (List ℕ)) → map (λ row. row.name) rows ≡ names → (at : ℕ) (row : QueueRow) → row ≡ get_or rows at row → row.name ≡ get_or names at row.name
name_at rows names are at row is =
    ap (λ (q : QueueRow). q.name) is
    ∙ sym (get_or-map (λ (q : QueueRow). q.name) rows at row)
    ∙ ap (λ ns. get_or ns at row.name) are

pub queue_count : (rows : List QueueRow) (names : List (List ℕ)) → map (λ row. row.name) rows ≡ names → length rows ≡ length names
queue_count rows names are = sym (length-map rows (λ (q : QueueRow). q.name)) ∙ ap length are

module _ {D : Type 0} (device : DiskView D) where
  -- The start of the queue at a position, and what happened in it.
  pub starting_at : (old : OpenSpool D) (t : State) → t ≡ old.state → (at : ℕ) (name : List ℕ) → name ≡ get_or (finite.keys t.queues) at name → (o : Option ℕ) → o ≡ next_of t name → (answer : Option Answer) (new : OpenSpool D) → IsStartingOf device old o answer new
      → (capacity : ℕ) (before after : List Happening) → HaveHappened capacity 1 before after (happenings_of (start_events o answer))
      → (n : List ℕ) × (n ≡ get_or (finite.keys old.state.queues) at n) × IsStarting device old (record { queue = n; answer = answer; next = new }) × HaveHappened capacity 1 before after (happenings_of (start_events (next_of old.state n) answer))
  starting_at old t same at name there o next answer new start capacity before after noted =
      let is = next ∙ ap (λ s. next_of s name) same in
      (name, there ∙ ap (λ (s : State). get_or (finite.keys s.queues) at name) same, subst (λ p. IsStartingOf device old p answer new) is start, subst (λ p. HaveHappened capacity 1 before after (happenings_of (start_events p answer))) is noted)
