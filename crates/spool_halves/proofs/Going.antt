-- A half after further events.
use Rattle.std.proofs.Common.{◌≡◌, ◌∙◌, ℕ, Bool, true, false, cond, List, None, Some, Option, refl, sym, ap, subst}
use Rattle.spool_types.specs.State.{State, Job, queue_at, job_at}
use Rattle.spool_types.specs.Busy.{is_of}
use Rattle.split_rows.specs.Half.{takes}
use Rattle.job_table.specs.Apart.{IsPart, own_of}
use Rattle.job_table.specs.Legal.{IsLegal}
use Rattle.spool_types.specs.declared.version.Version.TheVariants.{Two}
use Rattle.std.specs.Prelude.{◌≤◌}
use Rattle.std.specs.Cmp.Lexicographic.{bytes_decides}
use Rattle.spool_halves.specs.Halves.{IsHalf}
use Rattle.spool_halves.proofs.Halves.{job_from, job_to, queue_same}

module _ (named : Bool) (names : List (List ℕ)) (s t p : State) (legal_s : IsLegal s) (legal_t : IsLegal t) (half : IsHalf named names s t)
    (name : List ℕ) (own : takes named names name ≡ true) (part : IsPart name s p) where
  some_or_none : {X : Type 0} (o : Option X) → ((x : X) → o ≡ Some x → ⊥) → o ≡ None
  some_or_none None never = refl
  some_or_none (Some x) never = absurd (never x refl)

  own_name : (r : Job) → is_of name r ≡ true → r.queue ≡ name
  own_name r is = (bytes_decides r.queue name).0 is

  -- Its jobs are the same.
  pub same_jobs : (j : ℕ) → own_of name (job_at s j) ≡ own_of name (job_at t j)
  same_jobs j = either (job_at s j) refl
    where
      of_queue : (r : Job) (b : Bool) → is_of name r ≡ b → job_at s j ≡ Some r → cond b (Some r) None ≡ own_of name (job_at t j)
      of_queue r true is e = sym (ap (own_of name) (job_to named names s t legal_s legal_t half j r e (ap (takes named names) (own_name r is) ∙ own)) ∙ ap (λ b. cond b (Some r) None) is)
      of_queue r false is e = other (job_at t j) refl
        where
          other : (o : Option Job) → job_at t j ≡ o → None ≡ own_of name o
          other None at = refl
          other (Some x) at =
              let same : Some x ≡ Some r = sym (job_from named names s t legal_s legal_t half j x at).0 ∙ e in
              let is_x : x ≡ r = cc in
              sym (ap (λ b. cond b (Some x) None) (ap (is_of name) is_x ∙ is))

      either : (o : Option Job) → job_at s j ≡ o → own_of name o ≡ own_of name (job_at t j)
      either None e = sym (ap (own_of name) (some_or_none (job_at t j) (λ r at. let bad : None ≡ Some r = sym e ∙ (job_from named names s t legal_s legal_t half j r at).0 in cc)))
      either (Some r) e = of_queue r (is_of name r) refl e

  -- A part of the whole is one of the half.
  pub part_of_half : s.version ≡ Two → IsPart name t p
  part_of_half newest = record {
    queue = part.queue ∙ sym (queue_same named names s t legal_s legal_t half name own);
    only = part.only;
    jobs = λ j. part.jobs j ∙ same_jobs j;
    moment = part.moment ∙ sym half.moment;
    version = part.version ∙ newest ∙ sym half.version;
    highest = subst (λ n. p.highest ≤ n) (sym half.highest) part.highest;
  }

-- Two tables with one part have the same rows of the queue.
pub same_rows : (name : List ℕ) (s t p : State) → IsPart name s p → IsPart name t p → ((j : ℕ) → own_of name (job_at s j) ≡ own_of name (job_at t j)) × (queue_at s name ≡ queue_at t name)
same_rows name s t p one two = (λ j. sym (one.jobs j) ∙ two.jobs j, sym one.queue ∙ two.queue)
