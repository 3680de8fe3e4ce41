-- A table of any version equals, except for its version, the table after the same events in the newest version.
use Rattle.std.proofs.Common.{◌≡◌, ℕ, Bool, true, false, cond, not, List, [], ◌∷◌, Some, None, Option, refl, sym, ap, subst, ◌∙◌}
use Rattle.std.specs.Prelude.{nat_le, is_none}
use Rattle.std.specs.FinMap as finite
use Rattle.spool_types.specs.declared.effect.Effect.{Effect}
use Rattle.spool_types.specs.declared.event.Event.{Event}
use Rattle.spool_types.specs.declared.event.Event.TheVariants.{Reopen}
use Rattle.spool_types.specs.declared.refusal.Refusal.{Refusal}
use Rattle.spool_types.specs.declared.refusal.Refusal.TheVariants.{NotAccepting, NoJob, OldNumber, NoNumberLeft, NeedsCheckpoint}
use Rattle.spool_types.specs.declared.rows.QueueRow.{QueueRow}
use Rattle.spool_types.specs.declared.version.Version.TheVariants.{Two}
use Rattle.spool_types.specs.Limits.{greatest_number}
use Rattle.spool_types.specs.State.{State, Job, queue_at, job_at}
use Rattle.backend_codes.specs.declared.verdicts.Verdict.{Verdict}
use Rattle.row_effects.specs.EffectFold.{queue_after}
use Rattle.job_table.specs.Attempts.{rule_by, rule_found, rule_at, lost_by, is_processing_at, lose_attempt, lose_attempts, reopened, with_pages, with_effects}
use Rattle.job_table.specs.EventChanges.{change_found_queue, change_found, change_own_queue, change_job}
use Rattle.job_table.specs.EventFold.{after_one, after_all, unless_refused, AreAccepted}
use Rattle.job_table.specs.Legal.{IsLegal}
use Rattle.job_table.specs.Shapes.{Change, NewQueueRow, OfQueue, NewJobRow, OfJob, OfBoth, WithoutJob, OfClock, OfAll, lacks_by, lacks_purge, about_queue, where_it, causes_of, made}
use Rattle.job_table.specs.Step.{row, change_by, refusal_of, after, reply_to, first_cause}
use Rattle.job_table.specs.TableVersions.{raised}
use Rattle.job_table.proofs.Accepted.{none_first}
use Rattle.job_table.proofs.Reopened.{reopened_counts}

-- ## The effect of a change

queue_raised : (s : State) (name : List ℕ) (f : QueueRow → QueueRow) (o : Option QueueRow) → change_found_queue (raised s) name f o ≡ raised (change_found_queue s name f o)
queue_raised s name f None = refl
queue_raised s name f (Some q) = refl

job_raised : (s : State) (j : ℕ) (f : Job → Job) (o : Option Job) → change_found (raised s) j f o ≡ raised (change_found s j f o)
job_raised s j f None = refl
job_raised s j f (Some r) = refl

own_raised : (s : State) (f : QueueRow → QueueRow) (o : Option Job) → change_own_queue (raised s) f o ≡ raised (change_own_queue s f o)
own_raised s f None = refl
own_raised s f (Some r) = queue_raised s r.queue f (queue_at s r.queue)

effects_raised : (s : State) (j : ℕ) (effects : List Effect) → with_effects (raised s) j effects ≡ raised (with_effects s j effects)
effects_raised s j effects =
    let one = job_raised s j (with_pages effects) (job_at s j) in
    ap (λ (u : State). change_own_queue u (queue_after effects) (job_at u j)) one
    ∙ own_raised (change_job s j (with_pages effects)) (queue_after effects) (job_at (change_job s j (with_pages effects)) j)

rule_raised : (s : State) (verdict : Job → QueueRow → Verdict) (o : Option Job) → rule_found (raised s) verdict o ≡ raised (rule_found s verdict o)
rule_raised s verdict None = refl
rule_raised s verdict (Some r) = by_queue (queue_at s r.queue)
  where
    by_queue : (o : Option QueueRow) → rule_by (raised s) (verdict r) r o ≡ raised (rule_by s (verdict r) r o)
    by_queue None = refl
    by_queue (Some q) = refl

lose_raised : (s : State) (j : ℕ) → lose_attempt (raised s) j ≡ raised (lose_attempt s j)
lose_raised s j = either (is_processing_at (job_at s j))
  where
    either : (b : Bool) → cond b (rule_at (raised s) j lost_by) (raised s) ≡ raised (cond b (rule_at s j lost_by) s)
    either true = rule_raised s lost_by (job_at s j)
    either false = refl

lose_all_raised : (js : List ℕ) (s : State) → lose_attempts (raised s) js ≡ raised (lose_attempts s js)
lose_all_raised [] s = refl
lose_all_raised (j ∷ js) s = ap (λ (u : State). lose_attempts u js) (lose_raised s j) ∙ lose_all_raised js (lose_attempt s j)

pub reopened_raised : (s : State) → reopened (raised s) ≡ raised (reopened s)
reopened_raised s = lose_all_raised (finite.keys s.jobs) s

made_raised : (s : State) (change : Change) → made (raised s) change ≡ raised (made s change)
made_raised s (NewQueueRow q) = refl
made_raised s (OfQueue name f) = queue_raised s name f (queue_at s name)
made_raised s (NewJobRow r) = refl
made_raised s (OfJob j f) = job_raised s j f (job_at s j)
made_raised s (OfBoth j None verdict) = rule_raised s verdict (job_at s j)
made_raised s (OfBoth j (Some effects) verdict) =
    ap (λ (u : State). rule_at u j verdict) (effects_raised s j effects)
    ∙ rule_raised (with_effects s j effects) verdict (job_at (with_effects s j effects) j)
made_raised s (WithoutJob j) = refl
made_raised s (OfClock m) = refl
made_raised s OfAll = reopened_raised s

pub after_raised : (s : State) (e : Event) → after (raised s) e ≡ raised (after s e)
after_raised s e = made_raised s (change_by e)

-- ## Acceptance and reply

-- The event's own causes do not depend on the version.
record AsksNone (s : State) (e : Event) : Type 0 where
  own : (row e).own (raised s) ≡ (row e).own s
  reply : (t : State) → (row e).reply (raised s) (raised t) ≡ (row e).reply s t

asks_none : (s : State) (e : Event) → AsksNone s e
asks_none s Reopen = record { own = refl; reply = λ t. refl }
asks_none s e = record { own = refl; reply = λ t. refl }

-- In the newest version every job may have a moment by which it must start.
lacks_none : (by : Option ℕ) → lacks_by Two by ≡ false
lacks_none None = refl
lacks_none (Some by) = refl

-- The causes after that one.
abbrev new_causes : State → Job → List (Bool × Refusal) → List (Bool × Refusal)
new_causes s r own = about_queue s r.queue (
    where_it (queue_at s r.queue) (λ q. not q.accepting) NotAccepting
    ∷ (nat_le greatest_number s.highest, NoNumberLeft)
    ∷ (nat_le r.id s.highest, OldNumber)
    ∷ own)

accepted_by : (s : State) (change : Change) (own : List (Bool × Refusal)) → first_cause (causes_of s change own) ≡ None → first_cause (causes_of (raised s) change own) ≡ None
accepted_by s (NewQueueRow q) own accepted = accepted
accepted_by s (OfQueue name f) own accepted = accepted
accepted_by s (NewJobRow r) own accepted =
    ap (λ b. cond b (Some NeedsCheckpoint) (first_cause (new_causes s r own))) (lacks_none r.by)
    ∙ (none_first (lacks_by s.version r.by) NeedsCheckpoint (new_causes s r own) accepted).1
accepted_by s (OfJob j f) own accepted = accepted
accepted_by s (OfBoth j effects verdict) own accepted = accepted
accepted_by s (WithoutJob j) own accepted = (none_first (lacks_purge s.version) NeedsCheckpoint ((is_none (job_at s j), NoJob) ∷ own) accepted).1
accepted_by s (OfClock m) own accepted = accepted
accepted_by s OfAll own accepted = accepted

pub accepted_raised : (s : State) (e : Event) → refusal_of s e ≡ None → refusal_of (raised s) e ≡ None
accepted_raised s e accepted =
    ap (λ own. first_cause (causes_of (raised s) (change_by e) own)) (asks_none s e).own
    ∙ accepted_by s (change_by e) ((row e).own s) accepted

pub reply_raised : (s : State) (e : Event) → reply_to (raised s) e ≡ reply_to s e
reply_raised s e = ap ((row e).reply (raised s)) (after_raised s e) ∙ (asks_none s e).reply (after s e)

-- ## Lists of events

after_one_taken : (s : State) (e : Event) → refusal_of s e ≡ None → after_one s e ≡ after s e
after_one_taken s e taken = ap (unless_refused s e) taken

pub all_raised : (es : List Event) (s : State) → AreAccepted s es → AreAccepted (raised s) es × (after_all (raised s) es ≡ raised (after_all s es))
all_raised [] s taken = (tt, refl)
all_raised (e ∷ es) s taken =
    let now = accepted_raised s e taken.0 in
    let rest = all_raised es (after s e) taken.1 in (
      (now, subst (λ u. AreAccepted u es) (sym (after_raised s e)) rest.0),
      ap (λ u. after_all u es) (after_one_taken (raised s) e now ∙ after_raised s e)
          ∙ rest.1
          ∙ ap (λ u. raised (after_all u es)) (sym (after_one_taken s e taken.0)),
    )

pub legal_raised : (s : State) → IsLegal s → IsLegal (raised s)
legal_raised s legal = record { few_queues = legal.few_queues; names = legal.names; in_order = legal.in_order; numbers = legal.numbers; jobs = legal.jobs; one_processing = legal.one_processing }

-- ## The version does not change

queue_version : (s : State) (name : List ℕ) (f : QueueRow → QueueRow) (o : Option QueueRow) → (change_found_queue s name f o).version ≡ s.version
queue_version s name f None = refl
queue_version s name f (Some q) = refl

job_version : (s : State) (j : ℕ) (f : Job → Job) (o : Option Job) → (change_found s j f o).version ≡ s.version
job_version s j f None = refl
job_version s j f (Some r) = refl

own_version : (s : State) (f : QueueRow → QueueRow) (o : Option Job) → (change_own_queue s f o).version ≡ s.version
own_version s f None = refl
own_version s f (Some r) = queue_version s r.queue f (queue_at s r.queue)

rule_version : (s : State) (verdict : Job → QueueRow → Verdict) (o : Option Job) → (rule_found s verdict o).version ≡ s.version
rule_version s verdict None = refl
rule_version s verdict (Some r) = by_queue (queue_at s r.queue)
  where
    by_queue : (o : Option QueueRow) → (rule_by s (verdict r) r o).version ≡ s.version
    by_queue None = refl
    by_queue (Some q) = refl

made_version : (s : State) (change : Change) → (made s change).version ≡ s.version
made_version s (NewQueueRow q) = refl
made_version s (OfQueue name f) = queue_version s name f (queue_at s name)
made_version s (NewJobRow r) = refl
made_version s (OfJob j f) = job_version s j f (job_at s j)
made_version s (OfBoth j None verdict) = rule_version s verdict (job_at s j)
made_version s (OfBoth j (Some effects) verdict) =
    let s1 = change_job s j (with_pages effects) in
    rule_version (with_effects s j effects) verdict (job_at (with_effects s j effects) j)
    ∙ own_version s1 (queue_after effects) (job_at s1 j)
    ∙ job_version s j (with_pages effects) (job_at s j)
made_version s (WithoutJob j) = refl
made_version s (OfClock m) = refl
made_version s OfAll = (reopened_counts s).2

pub after_version : (s : State) (e : Event) → (after s e).version ≡ s.version
after_version s e = made_version s (change_by e)

unless_version : (s : State) (e : Event) (o : Option Refusal) → (unless_refused s e o).version ≡ s.version
unless_version s e None = after_version s e
unless_version s e (Some x) = refl

pub version_stays : (es : List Event) (s : State) → (after_all s es).version ≡ s.version
version_stays [] s = refl
version_stays (e ∷ es) s = version_stays es (after_one s e) ∙ unless_version s e (refusal_of s e)
