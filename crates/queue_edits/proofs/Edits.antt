-- The rows of an edited table.
use Rattle.std.proofs.Common.{◌≡◌, ◌≢◌, ◌∙◌, ℕ, Bool, true, false, cond, not, ◌&&◌, ◌||◌, List, [], ◌∷◌, map, None, Some, Option, refl, sym, ap, subst}
use Rattle.std.specs.Prelude.{nat_eq, unwrap_or}
use Rattle.std.specs.List.{list_any}
use Rattle.std.specs.Option.{option_map}
use Rattle.std.specs.Ordering.{eq_by_cmp, nat_cmp}
use Rattle.std.specs.Cmp.Lexicographic.{bytes_decides, nat_list_cmp_total, pointwise, slice_cmp, texts_ties}
use Rattle.std.specs.FinMap as finite
use Rattle.std.proofs.lemmas.List.Folds.{list_any_at}
use Rattle.spool_types.specs.Busy.{is_of}
use Rattle.spool_types.specs.Phases.{has_ended}
use Rattle.spool_types.specs.State.{State, Job, job_of, queue_at, job_at}
use Rattle.spool_types.specs.declared.rows.JobRow.{JobRow}
use Rattle.spool_types.specs.declared.rows.QueueRow.{QueueRow}
use Rattle.job_table.specs.Legal.{IsLegal}
use Rattle.job_table.proofs.Choice.{value_there}
use Rattle.queue_edits.specs.QueueEdits.{after_change, after_removal, changed, is_job_of, target_at, with_row}
use Rattle.queue_edits.specs.EditRefusals.{change_refusal, changes_media, has_job, has_unended, is_other, is_unended_of, refusal_for, refusal_of, removal_refusal}
use Rattle.queue_edits.specs.declared.change.QueueChange.{QueueChange}
use Rattle.queue_edits.specs.declared.refusals.EditRefusal.{EditRefusal}
use Rattle.queue_edits.specs.declared.refusals.EditRefusal.TheVariants.{Ended, NoQueue, Unended}

-- ## Names

pub tied : (x y : List ℕ) → x ≡ y → eq_by_cmp (slice_cmp nat_cmp) x y ≡ true
tied x y same = sym (texts_ties x y) ∙ (bytes_decides x y).1 same

pub untied : (x y : List ℕ) → x ≢ y → eq_by_cmp (slice_cmp nat_cmp) x y ≡ false
untied x y other = either (eq_by_cmp (slice_cmp nat_cmp) x y) refl
  where
    either : (b : Bool) → eq_by_cmp (slice_cmp nat_cmp) x y ≡ b → b ≡ false
    either true e = absurd (other ((bytes_decides x y).0 (texts_ties x y ∙ e)))
    either false e = refl

pub unlike : (x y : List ℕ) → x ≢ y → pointwise nat_eq x y ≡ false
unlike x y other = texts_ties x y ∙ untied x y other

pub other_name : (x y : List ℕ) → pointwise nat_eq x y ≡ false → x ≢ y
other_name x y unequal same =
    let bad : true ≡ false = sym ((bytes_decides x y).1 same) ∙ unequal in
    cc

-- ## A changed queue

pub own_row : (q : QueueRow) (s : State) → queue_at (with_row (Some q) s) q.name ≡ Some q
own_row q s = finite.get-insert nat_list_cmp_total s.queues q.name q q.name ∙ ap (λ b. cond b (Some q) (queue_at s q.name)) (tied q.name q.name refl)

pub other_row : (q : QueueRow) (s : State) (other : List ℕ) → other ≢ q.name → queue_at (with_row (Some q) s) other ≡ queue_at s other
other_row q s other apart = finite.get-insert nat_list_cmp_total s.queues q.name q other ∙ ap (λ b. cond b (Some q) (queue_at s other)) (untied other q.name apart)

module _ (name : List ℕ) (c : QueueChange) (s : State) (legal : IsLegal s) where
  pub own_after : (o : Option QueueRow) → queue_at s name ≡ o → queue_at (with_row (option_map (changed c) o) s) name ≡ option_map (changed c) o
  own_after None e = e
  own_after (Some q) e =
      subst (λ (n : List ℕ). queue_at (with_row (Some (changed c q)) s) n ≡ Some (changed c q)) (legal.names name q e) (own_row (changed c q) s)

  pub others_after : (other : List ℕ) → other ≢ name → (o : Option QueueRow) → queue_at s name ≡ o → queue_at (with_row (option_map (changed c) o) s) other ≡ queue_at s other
  others_after other apart None e = refl
  others_after other apart (Some q) e = other_row (changed c q) s other (λ same. apart (same ∙ legal.names name q e))

pub jobs_after : (o : Option QueueRow) (s : State) (j : ℕ) → job_at (with_row o s) j ≡ job_at s j
jobs_after None s j = refl
jobs_after (Some q) s j = refl

-- ## Jobs of a queue

one_of : (p : Job → Bool) (s : State) (j : ℕ) (r : Job) → job_at s j ≡ Some r → p r ≡ true → list_any p (finite.values s.jobs) ≡ true
one_of p s j r at passes =
    let there = value_there s j r at in
    list_any_at p (finite.values s.jobs) there.0 r there.1 (ap p there.2 ∙ passes)

pub unended_there : (name : List ℕ) (s : State) (j : ℕ) (r : Job) → job_at s j ≡ Some r → is_of name r ≡ true → has_ended r.phase ≡ false → has_unended name s ≡ true
unended_there name s j r at own goes = one_of (is_unended_of name) s j r at (ap (λ b. b && not (has_ended r.phase)) own ∙ ap not goes)

pub job_there : (name : List ℕ) (s : State) (j : ℕ) (r : Job) → job_at s j ≡ Some r → is_of name r ≡ true → has_job name s ≡ true
job_there name s j r at own = one_of (is_of name) s j r at own

-- ## The media type of jobs that have not ended

same_media : (new : Option (List ℕ)) (old : List ℕ) → is_other new old ≡ false → unwrap_or new old ≡ old
same_media None old same = refl
same_media (Some new) old same = (bytes_decides new old).0 (turned (pointwise nat_eq new old) same)
  where
    turned : (b : Bool) → not b ≡ false → b ≡ true
    turned true e = refl
    turned false e = absurd (cc)

unrefused : (b : Bool) (refusal : EditRefusal) → cond b (Some refusal) None ≡ None → b ≡ false
unrefused true refusal e = absurd (cc)
unrefused false refusal e = refl

first_false : (a b : Bool) → (a && b) ≡ false → b ≡ true → a ≡ false
first_false true true both e = both
first_false true false both e = absurd (cc)
first_false false b both e = refl

module _ (name : List ℕ) (c : QueueChange) (s : State) (legal : IsLegal s) (refused : change_refusal name c s ≡ None) (j : ℕ) (r : Job)
    (at : job_at s j ≡ Some r) (goes : has_ended r.phase ≡ false) where
  own_target : (o : Option QueueRow) → queue_at s name ≡ o → is_of name r ≡ true → target_at (after_change name c s) name ≡ target_at s name
  own_target None e own =
      let bad : Some NoQueue ≡ None = sym (ap (refusal_for c (has_unended name s)) e) ∙ refused in
      cc
  own_target (Some q) e own =
      let free : changes_media c q ≡ false =
      first_false (changes_media c q) (has_unended name s) (unrefused (changes_media c q && has_unended name s) Unended (sym (ap (refusal_for c (has_unended name s)) e) ∙ refused)) (unended_there name s j r at own goes) in
      ap (option_map (λ (q : QueueRow). q.target)) (own_after name c s legal (queue_at s name) refl ∙ ap (option_map (changed c)) e)
      ∙ ap Some (same_media c.media q.target free)
      ∙ sym (ap (option_map (λ (q : QueueRow). q.target)) e)

  pub target_after : (b : Bool) → is_of name r ≡ b → target_at (after_change name c s) r.queue ≡ target_at s r.queue
  target_after true own =
      subst (λ (n : List ℕ). target_at (after_change name c s) n ≡ target_at s n) (sym ((bytes_decides r.queue name).0 own)) (own_target (queue_at s name) refl own)
  target_after false own =
      ap (option_map (λ (q : QueueRow). q.target)) (others_after name c s legal r.queue (other_name r.queue name own) (queue_at s name) refl)

-- ## A removed queue

pub queue_gone : (name : List ℕ) (s : State) → queue_at (after_removal name s) name ≡ None
queue_gone name s = finite.get-remove nat_list_cmp_total s.queues name name ∙ ap (λ b. cond b None (queue_at s name)) (tied name name refl)

pub queue_stays : (name : List ℕ) (s : State) (other : List ℕ) → other ≢ name → queue_at (after_removal name s) other ≡ queue_at s other
queue_stays name s other apart = finite.get-remove nat_list_cmp_total s.queues name other ∙ ap (λ b. cond b None (queue_at s other)) (untied other name apart)

pub job_left : (name : List ℕ) (s : State) (j : ℕ) → job_at (after_removal name s) j ≡ cond (not (is_job_of name (job_at s j))) (job_at s j) None
job_left name s j =
    finite.get-retain_keys s.jobs (λ k. not (is_job_of name (job_at s k))) j
    (λ x e. ap (λ k. not (is_job_of name (job_at s k))) (sym (finite.nat_cmp-IsAntisymmetric j x e)))

pub job_stays : (name : List ℕ) (s : State) (j : ℕ) (r : Job) → job_at s j ≡ Some r → r.queue ≢ name → job_at (after_removal name s) j ≡ Some r
job_stays name s j r at apart =
    job_left name s j ∙ ap (λ (o : Option Job). cond (not (is_job_of name o)) o None) at
    ∙ ap (λ b. cond (not b) (Some r) None) (unlike r.queue name apart)

module _ (name : List ℕ) (s : State) (j : ℕ) (r : Job) where
  kept_of : (x : Job) (b : Bool) → is_of name x ≡ b → job_at s j ≡ Some x → cond (not b) (Some x) None ≡ Some r → (job_at s j ≡ Some r) × (r.queue ≢ name)
  kept_of x true own at found = absurd (cc)
  kept_of x false own at found =
      let same : x ≡ r = cc in
      (at ∙ found, other_name r.queue name (sym (ap (is_of name) same) ∙ own))

  kept_from : (o : Option Job) → job_at s j ≡ o → cond (not (is_job_of name o)) o None ≡ Some r → (job_at s j ≡ Some r) × (r.queue ≢ name)
  kept_from None at found = absurd (cc)
  kept_from (Some x) at found = kept_of x (is_of name x) refl at found

  pub job_kept : job_at (after_removal name s) j ≡ Some r → (job_at s j ≡ Some r) × (r.queue ≢ name)
  job_kept found = kept_from (job_at s j) refl (sym (job_left name s j) ∙ found)

module _ (name : List ℕ) (purge : Bool) (s : State) (j : ℕ) (r : Job) (at : job_at s j ≡ Some r) (own : is_of name r ≡ true) where
  both_false : (unended given : Bool) → cond unended (Some Unended) (cond (not given && true) (Some Ended) None) ≡ None → (unended ≡ false) × (given ≡ true)
  both_false true given e = absurd (cc)
  both_false false true e = (refl, refl)
  both_false false false e = absurd (cc)

  ended_from : (b : Bool) → has_ended r.phase ≡ b → has_unended name s ≡ false → b ≡ true
  ended_from true e none = refl
  ended_from false e none =
      let bad : true ≡ false = sym (unended_there name s j r at own e) ∙ none in
      cc

  by_queue : (o : Option QueueRow) → refusal_of purge (has_unended name s) (has_job name s) o ≡ None → (has_ended r.phase ≡ true) × (purge ≡ true)
  by_queue None e = absurd (cc)
  by_queue (Some q) e =
      let two = both_false (has_unended name s) purge (ap (λ b. cond (has_unended name s) (Some Unended) (cond (not purge && b) (Some Ended) None)) (sym (job_there name s j r at own)) ∙ e) in
      (ended_from (has_ended r.phase) refl two.0, two.1)

  pub ended_jobs_go : removal_refusal name purge s ≡ None → (has_ended r.phase ≡ true) × (purge ≡ true)
  ended_jobs_go e = by_queue (queue_at s name) e

-- ## The jobs of rows

any_map : {X Y : Type 0} (p : X → Bool) (f : Y → X) (ys : List Y) → list_any p (map f ys) ≡ list_any (λ y. p (f y)) ys
any_map p f [] = refl
any_map p f (y ∷ ys) = ap (λ b. p (f y) || b) (any_map p f ys)

-- A test of the rows is that of the table's jobs.
pub any_row : (p : Job → Bool) (s : State) (rows : List JobRow) → map job_of rows ≡ finite.values s.jobs → list_any (λ (row : JobRow). p row.job) rows ≡ list_any p (finite.values s.jobs)
any_row p s rows are = sym (any_map p job_of rows) ∙ ap (list_any p) are
