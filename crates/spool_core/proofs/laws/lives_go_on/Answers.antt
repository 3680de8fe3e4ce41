-- Each life is a list of events after the acknowledged events of another.
use Rattle.std.proofs.Common.{◌≡◌, [], ◌++◌, refl, sym, ap, ◌∙◌, subst, take}
use Rattle.std.specs.Prelude.{IsSome, Some}
use Rattle.std.proofs.Math.Logic.{⊎_elim}
use Rattle.spool_types.specs.declared.event.Event.TheVariants.{Reopen}
use Rattle.spool_types.specs.State.{State, job_at, nothing_in}
use Rattle.job_table.specs.Attempts.{reopened}
use Rattle.job_table.specs.Ended.{IsKeptOrPurged}
use Rattle.job_table.specs.EventFold.{after_all}
use Rattle.job_table.specs.Legal.{IsLegal}
use Rattle.job_table.specs.Over.{HasOver, late_refusal}
use Rattle.job_table.specs.Step.{creation, refusal_of}
use Rattle.spool_core.specs.Driving.{documents_after}
use Rattle.spool_core.specs.Image.{HasTable, HasDocuments}
use Rattle.spool_core.specs.SpoolLives.{Life, next_table, history_of, later_events}
use Rattle.spool_core.proofs.DocumentLaws.{documents_stay}
use Rattle.spool_core.proofs.ImageLaws.{over_after}
use Rattle.spool_core.proofs.LifeLaws.{one_history, one_history_sends, legal_found, after_acknowledged, further}
use Rattle.spool_core.proofs.laws.lives_go_on.Goals as goal

pub returns-clause-opened : goal.returns-clause-opened
returns-clause-opened c s t events acknowledged most image has found =
    (has.0, has.1, has.2, found.reopened_is ∙ ap reopened (c.one_reading.ensures.table found.table (after_all s (take has.0 events)) image found.found has.3))

pub returns-clause-goes_on : goal.returns-clause-goes_on
returns-clause-goes_on c s t events acknowledged most image has found =
    let l : Life = record { events = events; acknowledged = acknowledged; left = has.0 } in
    let is : t ≡ next_table s l = found.reopened_is ∙ ap reopened (c.one_reading.ensures.table found.table (after_all s (take has.0 events)) image found.found has.3) in
    (later_events l [], is ∙ after_acknowledged s l [] has.1)

pub returns-clause-documents : goal.returns-clause-documents
returns-clause-documents c s t documents events acknowledged most image has found =
    let left = after_all s (take has.0 events) in
    let same : t ≡ reopened left = found.reopened_is ∙ ap reopened (c.one_reading.ensures.table found.table left image found.found has.3.0) in
    let legal = legal_found c.legal_tables_stay_legal.ensures.begins c.legal_tables_stay_legal.ensures.stays left image has.3.0 in
    let documents_left = documents_after s documents (take has.0 events) in (
      has.0,
      has.1,
      has.2,
      same,
      subst (λ (u : State). HasDocuments u documents_left image) (sym same)
          (documents_stay left (reopened left) documents_left image (over_after left Reopen legal refl c.ended_jobs_stay.ensures.accepted) has.3.1),
    )

-- Applying the policy twice is the same as applying it once.
pub returns-clause-cut : goal.returns-clause-cut
returns-clause-cut c s t image left midway opened again =
    let table = c.one_reading.ensures.table in
    let begun : s ≡ reopened midway.table = opened.reopened_is ∙ ap reopened (table opened.table midway.table image opened.found midway.found) in
    ⊎_elim
    (λ (before : HasTable midway.table left). again.reopened_is ∙ ap reopened (table again.table midway.table left again.found before) ∙ sym begun)
    (λ (after : HasTable (reopened midway.table) left).
    again.reopened_is
    ∙ ap reopened (table again.table (reopened midway.table) left again.found after)
    ∙ c.reopening.ensures.twice midway.table (legal_found c.legal_tables_stay_legal.ensures.begins c.legal_tables_stay_legal.ensures.stays midway.table image midway.found)
    ∙ sym begun)
    midway.left

pub returns-clause-cut_documents : goal.returns-clause-cut_documents
returns-clause-cut_documents c s documents image left midway found has =
    let same : s ≡ midway.table = c.one_reading.ensures.table s midway.table image found midway.found in
    subst (λ (u : State). HasDocuments u documents left) (sym same) (midway.documents documents (subst (λ (u : State). HasDocuments u documents image) same has))

pub returns-clause-history : goal.returns-clause-history
returns-clause-history c s lives = one_history s lives

pub returns-clause-sent : goal.returns-clause-sent
returns-clause-sent c s documents lives = one_history_sends s documents lives

pub returns-clause-legal : goal.returns-clause-legal
returns-clause-legal c v lives =
    subst IsLegal (sym (one_history (nothing_in v) lives)) (c.legal_tables_stay_legal.ensures.stays (nothing_in v) (history_of lives) (c.legal_tables_stay_legal.ensures.begins v))

pub returns-clause-idle : goal.returns-clause-idle
returns-clause-idle c s l legal =
    c.reopening.ensures.none (after_all s (take l.left l.events)) (c.legal_tables_stay_legal.ensures.stays s (take l.left l.events) legal)

pub returns-clause-ended : goal.returns-clause-ended
returns-clause-ended c s l lives j job keeps has =
    subst (λ (t : State). IsKeptOrPurged (after_all s (take l.acknowledged l.events)) (later_events l lives) t j job) (sym (after_acknowledged s l lives keeps))
    (c.ended_jobs_stay.ensures.stays (after_all s (take l.acknowledged l.events)) j job (later_events l lives) has)

pub returns-clause-refused : goal.returns-clause-refused
returns-clause-refused c s l lives more j e keeps has about =
    subst (λ (t : State). refusal_of t e ≡ Some (late_refusal (job_at t j))) (sym (further s l lives more keeps))
    (c.ended_jobs_stay.ensures.refused (after_all s (take l.acknowledged l.events)) j (later_events l lives ++ more) e has about)

pub returns-clause-over : goal.returns-clause-over
returns-clause-over c s l lives j keeps has =
    subst (λ (t : State). HasOver t j) (sym (after_acknowledged s l lives keeps))
    (c.ended_jobs_stay.ensures.over (after_all s (take l.acknowledged l.events)) j (later_events l lives) has)

pub returns-clause-number : goal.returns-clause-number
returns-clause-number c s l lives more j n by keeps has same =
    subst (λ (t : State). IsSome (refusal_of t (creation n by))) (sym (further s l lives more keeps))
    (c.ended_jobs_stay.ensures.number (after_all s (take l.acknowledged l.events)) j (later_events l lives ++ more) n by has same)
